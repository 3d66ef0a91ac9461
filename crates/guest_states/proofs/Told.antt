-- What is told of one process more.
use Rattle.std.proofs.Common.{◌≡◌, ℕ, ◌+◌, ◌<◌, ◌≤◌, ◌==◌, get_or, length, take, IsSome, List, [], ◌∷◌, ◌++◌, Option, None, Some, IfSome, option_map, refl, sym, ap, ap₂, subst, ◌∙◌}
use Rattle.std.specs.List.{position, position_or_len}
use Rattle.std.specs.Prelude.{fold}
use Rattle.std.proofs.lemmas.Bool.{false≢true}
use Rattle.std.proofs.lemmas.List.{map_push, take_all, take_more}
use Rattle.arn_base.specs.declared.machine.Block.{Block}
use Rattle.arn_base.specs.declared.machine.Cpu.{Cpu}
use Rattle.arn_base.specs.declared.machine.Member.{Member}
use Rattle.arn_base.specs.declared.machine.State.{State}
use Rattle.parts_model.specs.Blocks.{blocks_of}
use Rattle.parts_model.specs.Numbered.{nth}
use Rattle.acts_model.specs.Bodies.{View}
use Rattle.guest_bodies.specs.Shown.{Guests, IsLive, Shown, seen_in}
use Rattle.guest_states.specs.State.{Memory, also, held, holder, holders, members, number_in, segments_of, state_of, windows_of}
use Rattle.guest_states.specs.Told.{Adds, AddsHolder, AddsSegment, AreHeld, Tells, place_in}
use Rattle.guest_states.specs.declared.held.Held.{Held}
use Rattle.guest_states.specs.declared.states.Telling.{Telling}
use Rattle.guest_states.proofs.Members.{held-more, holders-more, members-more, segment_of, with_numbers}
use Rattle.guest_states.proofs.Numbers.{also-found, also-new, found, not-found, place-names}

abbrev search_in : List ℕ → ℕ → Option ℕ
search_in xs made = position (λ (n : ℕ). n == made) xs

-- a memory that is among those that are kept
pub adds-found : (h : Held) (made place : ℕ) (blocks : List Block) → search_in h.names.items made ≡ Some place → Adds made blocks h h
adds-found h made place blocks e =
    record {
      adds = λ ms m is name content.
          subst (AreHeld h) (sym (also-found ms m (found ms m.made place (ap₂ search_in (sym is.names) name ∙ e)))) is;
    }

-- one that isn't
pub adds-new : (old new : Held) (made : ℕ) (blocks : List Block) → search_in old.names.items made ≡ None → new.names.items ≡ old.names.items ++ made ∷ [] → new.memories ≡ old.memories ++ blocks ∷ [] → Adds made blocks old new
adds-new old new made blocks e more_names more_blocks =
    record {
      adds = λ ms m is name content.
          subst (AreHeld new) (sym (also-new ms m (not-found ms m.made (ap₂ search_in (sym is.names) name ∙ e))))
          (record {
            names = more_names ∙ (ap₂ (λ (l : List ℕ) (k : ℕ). l ++ k ∷ []) is.names (sym name) ∙ sym (map_push (λ (x : Memory). x.made) ms m));
            blocks =
                more_blocks
                ∙ (ap₂ (λ (l : List (List Block)) (k : List Block). l ++ k ∷ []) is.blocks content ∙ sym (map_push (λ (x : Memory). blocks_of x.bytes) ms m));
          });
    }

-- the segment of a process
pub adds-segment : (v : View) (made : ℕ) (blocks : List Block) (old new : Held) → Some made ≡ v.body.segment → blocks ≡ blocks_of v.segment → Adds made blocks old new → AddsSegment v old new
adds-segment v made blocks old new e content adds =
    record {
      adds = λ ms is.
          subst (λ (o : Option ℕ). AreHeld new (fold also ms (segment_of v.segment o))) e (adds.adds ms (record { made = made; bytes = v.segment }) is refl content);
    }

pub adds-none : (v : View) (h : Held) → None ≡ v.body.segment → AddsSegment v h h
adds-none v h e = record { adds = λ ms is. subst (λ (o : Option ℕ). AreHeld h (fold also ms (segment_of v.segment o))) e is }

place-held : (h : Held) (ms : List Memory) (made : ℕ) → AreHeld h ms → place_in h made ≡ number_in ms made
place-held h ms made is = ap (position_or_len (λ (n : ℕ). n == made)) is.names ∙ place-names ms made

place-if : (h : Held) (ms : List Memory) (o : Option ℕ) → AreHeld h ms → option_map (place_in h) o ≡ option_map (number_in ms) o
place-if h ms None is = refl
place-if h ms (Some made) is = ap (λ (n : ℕ). Some n) (place-held h ms made is)

-- a process
pub record Added (pid : ℕ) (v : View) (old new : Telling) : Type 0 where
  pub number : ℕ
  pub segment : Option ℕ
  pub windows : Adds v.body.window (blocks_of v.window) old.windows new.windows
  pub numbered : number ≡ place_in new.windows v.body.window
  pub segments : AddsSegment v old.segments new.segments
  pub shared : segment ≡ option_map (place_in new.segments) v.body.segment
  pub members : new.members ≡ old.members ++ with_numbers (holder pid v) number segment ∷ []

pub adds-holder : (pid : ℕ) (v : View) (old new : Telling) → Added pid v old new → AddsHolder pid v old new
adds-holder pid v old new a =
    record {
      adds = λ hs t.
          let h = holder pid v in
          let windows : AreHeld new.windows (held windows_of (hs ++ h ∷ [])) = subst (AreHeld new.windows) (sym (held-more windows_of hs h)) (a.windows.adds (held windows_of hs) (record { made = v.body.window; bytes = v.window }) t.windows refl refl) in
          let segments : AreHeld new.segments (held segments_of (hs ++ h ∷ [])) = subst (AreHeld new.segments) (sym (held-more segments_of hs h)) (a.segments.adds (held segments_of hs) t.segments) in
          record {
            members =
                a.members
                ∙ (ap₂ (λ (l : List Member) (x : Member). l ++ x ∷ []) t.members
                (ap₂ (with_numbers h)
                (a.numbered ∙ place-held new.windows (held windows_of (hs ++ h ∷ [])) v.body.window windows)
                (a.shared ∙ place-if new.segments (held segments_of (hs ++ h ∷ [])) v.body.segment segments))
                ∙ sym (members-more hs h));
            windows = windows;
            segments = segments;
          };
    }

-- what is said of a process that lives
pub at-some : (P : View → Type 0) (o : Option View) (v : View) → o ≡ Some v → IfSome o P → P v
at-some P o v e h = subst (λ (x : Option View). IfSome x P) e h

pub registers-are : (o : Option View) (v : View) (cpu : Cpu) → o ≡ Some v → option_map (λ v. v.body.cpu) o ≡ Some cpu → cpu ≡ v.body.cpu
registers-are o v cpu e h = let there : Some v.body.cpu ≡ Some cpu = sym (ap (option_map (λ (x : View). x.body.cpu)) e) ∙ h in cc

pub adds-at : {made made' : ℕ} {blocks blocks' : List Block} {old new : Held} → made ≡ made' → blocks ≡ blocks' → Adds made blocks old new → Adds made' blocks' old new
adds-at {old = old} {new = new} e f adds = record { adds = λ ms m is name content. adds.adds ms m is (name ∙ sym e) (f ∙ content) }

abbrev pub with_registers : ℕ → Cpu → Option Cpu → ℕ → Option ℕ → Member
with_registers pid cpu slot window segment = record { pid = pid; cpu = cpu; slot = slot; window = window; segment = segment }

pub member-is : (pid : ℕ) (v : View) (cpu : Cpu) (slot : Option Cpu) (window : ℕ) (segment : Option ℕ) → cpu ≡ v.body.cpu → slot ≡ v.body.slot → with_registers pid cpu slot window segment ≡ with_numbers (holder pid v) window segment
member-is pid v cpu slot window segment e f =
    ap₂ (λ (x : Cpu) (y : Option Cpu). with_registers pid x y window segment) e f

-- one process after the other
some-is : (o : Option View) → IsSome o → (v : View) × (o ≡ Some v)
some-is None there = absurd (false≢true there)
some-is (Some v) there = (v, refl)

seen-live : (o : Option Shown) → IsSome o → IsSome (option_map (λ (shown : Shown). shown.view) o)
seen-live None there = there
seen-live (Some shown) there = there

pub tells-more : (guests : Guests) (pids : List ℕ) (i : ℕ) (old new : Telling) → i < length pids → IsLive guests (get_or pids i 0) → ((v : View) → seen_in guests (get_or pids i 0) ≡ Some v → AddsHolder (get_or pids i 0) v old new) → Tells old (holders (seen_in guests) (take i pids)) → Tells new (holders (seen_in guests) (take (i + 1) pids))
tells-more guests pids i old new below live adds tells =
    let sees = seen_in guests in
    let pid = get_or pids i 0 in
    let there = some-is (sees pid) (seen-live (nth guests pid) live) in
    subst (Tells new)
    (sym (ap (holders sees) (take_more pids i 0 below) ∙ holders-more sees (take i pids) pid there.0 there.1))
    ((adds there.0 there.1).adds (holders sees (take i pids)) tells)

-- all of them
abbrev pub state_from : List Member → List (List Block) → List (List Block) → State
state_from members windows segments = record { members = members; windows = windows; segments = segments }

pub tells-all : (sees : ℕ → Option View) (pids : List ℕ) (i : ℕ) (t : Telling) → length pids ≤ i → Tells t (holders sees (take i pids)) → state_from t.members t.windows.memories t.segments.memories ≡ state_of sees pids
unfolding state_of
tells-all sees pids i t end tells =
    let all : Tells t (holders sees pids) = subst (λ (l : List ℕ). Tells t (holders sees l)) (take_all i pids end) tells in
    ap (λ (l : List Member). state_from l t.windows.memories t.segments.memories) all.members
    ∙ ap₂ (state_from (members (holders sees pids))) all.windows.blocks all.segments.blocks
