-- What the commands of a session do behind others, and what they cost.
use Rattle.std.proofs.Common.{◌≡◌, ℕ, ◌+◌, ◌≤◌, ◌||◌, ◌++◌, Bool, true, false, if◌then◌else◌, List, [], ◌∷◌, Option, Some, None, is_none, refl, sym, ap, ◌∙◌, subst, append_assoc, append-nil, arith, ◌&&◌}
use Rattle.std.proofs.lemmas.Bool.{false≢true}
use Rattle.std.proofs.lemmas.List.Folds.{list_any-append}
use Rattle.arn_base.specs.declared.records.Record.{Record}
use Rattle.arn_lines.specs.declared.answer.Refusal.{Refusal}
use Rattle.arn_lines.specs.declared.line.Line.{Line}
use Rattle.arn_lines.specs.declared.line.Line.TheVariants as line
use Rattle.arn_commands.specs.declared.command.Command.{Command}
use Rattle.arn_commands.specs.declared.command.Command.TheVariants.{PassedOver, TooLong, Unreadable, Says, Faulty, Generates}
use Rattle.guest_machine.specs.Again.{rebuild_cost}
use Rattle.guest_legs.specs.Legs.{Picked}
use Rattle.session_effects.specs.Effects.{Effect, committed}
use Rattle.session_runs.specs.Touches.{Touch}
use Rattle.session_runs.specs.Turns.{Point, Turn, behind, finished, followed_by}
use Rattle.session_commands.specs.Cost.{asked_cost, cost_of_turn}
use Rattle.session_commands.specs.Generator.{generator_turn}
use Rattle.session_commands.specs.Given.{Given}
use Rattle.session_commands.specs.Lines.{needs_machine, turn, turn_unless}
use Rattle.session_commands.specs.Refusals.{generator_refusal}
use Rattle.session_commands.specs.Rows.{row_of}
use Rattle.session_text.specs.Transcript.{asked_costs, history_behind, needs_any, total_cost, transcript, unless_cut_off}
use Rattle.session_text.proofs.PointLemmas.{behind-behind, behind-finished, committed-append}

-- the history behind effects and a turn
history-behind : (history : List Record) (effects : List Effect) (touches : List Touch) (t : Turn) → history_behind (history ++ committed effects) t ≡ history_behind history (behind effects touches t)
history-behind history effects touches t =
    append_assoc history (committed effects) (committed t.effects) ∙ ap (λ (x : List Record). history ++ x) (sym (committed-append effects t.effects))

behind-followed : (effects : List Effect) (touches : List Touch) (t : Turn) (left : Option (List Picked)) (next : Point) → behind effects touches (followed_by t left next) ≡ followed_by (behind effects touches t) left next
behind-followed effects touches t None next = refl
behind-followed effects touches t (Some rest) next = behind-behind effects t.effects touches t.touches (next rest)

followed-finished : (t : Turn) (left : Option (List Picked)) → t.left ≡ left → followed_by t left finished ≡ t
followed-finished t None is = refl
followed-finished t (Some rest) is = behind-finished t rest is

-- what one more command needs
or-none : (b : Bool) → (b || false) ≡ b
or-none true = refl
or-none false = refl

pub needs-push : (g : Given) (history : List Record) (commands : List Command) (command : Command) → needs_any g history (commands ++ command ∷ []) ≡ (needs_any g history commands || needs_machine g history command)
needs-push g history commands command =
    list_any-append (needs_machine g history) commands (command ∷ []) ∙ ap (λ (b : Bool). needs_any g history commands || b) (or-none (needs_machine g history command))

-- the machine is made once
machine-once : (there needs needed : Bool) (here now : ℕ) → (there ≡ false → now ≡ here) → (there ≡ false → needed ≡ needs) → (if there then here else 0) + (if needed then (if there then 0 else now) else 0) ≤ (if there || needs then here else 0)
machine-once true needs true here now same is = omega arith
machine-once true needs false here now same is = omega arith
machine-once false needs needed here now same is =
    subst (λ (b : Bool). (if false then here else 0) + (if b then (if false then 0 else now) else 0) ≤ (if false || needs then here else 0)) (sym (is refl)) (once needs)
  where
    once : (b : Bool) → (if false then here else 0) + (if b then (if false then 0 else now) else 0) ≤ (if false || b then here else 0)
    once true = omega (arith, same refl)
    once false = omega arith

module _ (g : Given) where
  pub transcript-one : (history : List Record) (command : Command) (slices : List Picked) → transcript g history (command ∷ []) slices ≡ turn g history command slices
  transcript-one history command slices = followed-finished (turn g history command slices) (turn g history command slices).left refl

  append-one : (history : List Record) (t : Turn) (left : Option (List Picked)) (commands more : List Command) → t.left ≡ left → ((rest : List Picked) → let u = transcript g (history_behind history t) commands rest in transcript g (history_behind history t) (commands ++ more) rest ≡ followed_by u u.left (transcript g (history_behind (history_behind history t) u) more)) → let s = followed_by t left (transcript g (history_behind history t) commands) in followed_by t left (transcript g (history_behind history t) (commands ++ more)) ≡ followed_by s s.left (transcript g (history_behind history s) more)
  append-one history t None commands more is later = sym (ap (λ (o : Option (List Picked)). followed_by t o (transcript g (history_behind history t) more)) is)
  append-one history t (Some rest) commands more is later =
      let u = transcript g (history_behind history t) commands rest in
      ap (λ (x : Turn). behind t.effects t.touches x) (later rest)
      ∙ behind-followed t.effects t.touches u u.left (transcript g (history_behind (history_behind history t) u) more)
      ∙ ap (λ (h : List Record). followed_by (behind t.effects t.touches u) u.left (transcript g h more)) (history-behind history t.effects t.touches u)

  -- commands behind others
  transcript-append : (history : List Record) (commands more : List Command) (slices : List Picked) → let t = transcript g history commands slices in transcript g history (commands ++ more) slices ≡ followed_by t t.left (transcript g (history_behind history t) more)
  transcript-append history [] more slices = ap (λ (h : List Record). transcript g h more slices) (sym (append-nil history))
  transcript-append history (c ∷ commands) more slices =
      let t = turn g history c slices in
      append-one history t t.left commands more refl (transcript-append (history_behind history t) commands more)

  costs-one : (history : List Record) (t : Turn) (left : Option (List Picked)) (commands more : List Command) (n : ℕ) → t.left ≡ left → ((rest : List Picked) → let u = transcript g (history_behind history t) commands rest in asked_costs g (history_behind history t) (commands ++ more) rest ≡ asked_costs g (history_behind history t) commands rest + unless_cut_off u.left (asked_costs g (history_behind (history_behind history t) u) more)) → let s = followed_by t left (transcript g (history_behind history t) commands) in n + unless_cut_off left (asked_costs g (history_behind history t) (commands ++ more)) ≡ (n + unless_cut_off left (asked_costs g (history_behind history t) commands)) + unless_cut_off s.left (asked_costs g (history_behind history s) more)
  costs-one history t None commands more n is later =
      let none : unless_cut_off t.left (asked_costs g (history_behind history t) more) ≡ 0 = ap (λ (o : Option (List Picked)). unless_cut_off o (asked_costs g (history_behind history t) more)) is in
      omega (arith, none)
  costs-one history t (Some rest) commands more n is later =
      let u = transcript g (history_behind history t) commands rest in
      let same = ap (λ (h : List Record). unless_cut_off u.left (asked_costs g h more)) (history-behind history t.effects t.touches u) in
      omega (arith, later rest, same)

  asked-append : (history : List Record) (commands more : List Command) (slices : List Picked) → let t = transcript g history commands slices in asked_costs g history (commands ++ more) slices ≡ asked_costs g history commands slices + unless_cut_off t.left (asked_costs g (history_behind history t) more)
  asked-append history [] more slices = omega (arith, ap (λ (h : List Record). asked_costs g h more slices) (append-nil history))
  asked-append history (c ∷ commands) more slices =
      let t = turn g history c slices in
      costs-one history t t.left commands more (asked_cost g history (history_behind history t) c) refl (asked-append (history_behind history t) commands more)

  -- the slices lead through these commands, whatever commands and slices follow
  pub leads-more : (history there : List Record) (commands more : List Command) (taken : List Picked) (effects : List Effect) (touches : List Touch) → there ≡ history ++ committed effects → ((rest : List Picked) → transcript g history commands (taken ++ rest) ≡ behind effects touches (finished rest)) → (rest : List Picked) → transcript g history (commands ++ more) (taken ++ rest) ≡ behind effects touches (transcript g there more rest)
  leads-more history there commands more taken effects touches is leads rest =
      transcript-append history commands more (taken ++ rest)
      ∙ ap (λ (t : Turn). followed_by t t.left (transcript g (history_behind history t) more)) (leads rest)
      ∙ ap (λ (e : List Effect). behind e (touches ++ []) (transcript g (history ++ committed e) more rest)) (append-nil effects)
      ∙ ap (λ (a : List Touch). behind effects a (transcript g (history ++ committed effects) more rest)) (append-nil touches)
      ∙ ap (λ (h : List Record). behind effects touches (transcript g h more rest)) (sym is)

  -- what one more command costs
  asked-push : (history there : List Record) (commands : List Command) (command : Command) (taken : List Picked) (effects : List Effect) (touches : List Touch) → there ≡ history ++ committed effects → ((rest : List Picked) → transcript g history commands (taken ++ rest) ≡ behind effects touches (finished rest)) → (rest : List Picked) → asked_costs g history commands (taken ++ rest) + asked_cost g there (history_behind there (turn g there command rest)) command ≤ asked_costs g history (commands ++ command ∷ []) (taken ++ rest)
  asked-push history there commands command taken effects touches is leads rest =
      let t = transcript g history commands (taken ++ rest) in
      let more : unless_cut_off t.left (asked_costs g (history_behind history t) (command ∷ [])) ≡ asked_costs g (history ++ committed (effects ++ [])) (command ∷ []) rest =
      ap (λ (t : Turn). unless_cut_off t.left (asked_costs g (history_behind history t) (command ∷ []))) (leads rest) in
      let here : asked_costs g (history ++ committed (effects ++ [])) (command ∷ []) rest ≡ asked_costs g there (command ∷ []) rest =
      ap (λ (e : List Effect). asked_costs g (history ++ committed e) (command ∷ []) rest) (append-nil effects) ∙ ap (λ (h : List Record). asked_costs g h (command ∷ []) rest) (sym is) in
      omega (arith, asked-append history commands (command ∷ []) (taken ++ rest), more, here)

  pub cost-push : (history there : List Record) (commands : List Command) (command : Command) (is_there : Bool) (taken : List Picked) (effects : List Effect) (touches : List Touch) (n : ℕ) → there ≡ history ++ committed effects → ((rest : List Picked) → transcript g history commands (taken ++ rest) ≡ behind effects touches (finished rest)) → is_there ≡ needs_any g history commands → (is_there ≡ false → there ≡ history) → ((rest : List Picked) → n ≤ total_cost g history commands (taken ++ rest)) → (rest : List Picked) → n + cost_of_turn g is_there there command (turn g there command rest) ≤ total_cost g history (commands ++ command ∷ []) (taken ++ rest)
  cost-push history there commands command is_there taken effects touches n is leads needs unmoved costs rest =
      let once = machine-once is_there (needs_machine g history command) (needs_machine g there command) (rebuild_cost history) (rebuild_cost there) (λ absent. ap rebuild_cost (unmoved absent)) (λ absent. ap (λ (h : List Record). needs_machine g h command) (unmoved absent)) in
      let before = ap (λ (b : Bool). if b then rebuild_cost history else 0) needs in
      let after = ap (λ (b : Bool). if b then rebuild_cost history else 0) (needs-push g history commands command ∙ ap (λ (b : Bool). b || needs_machine g history command) (sym needs)) in
      omega (arith, once, before, after, costs rest, asked-push history there commands command taken effects touches is leads rest)

  -- a command that doesn't need the machine commits nothing
  commits-unless : (history : List Record) (l : Line) (why : Option Refusal) (slices : List Picked) → ((row_of g history l).needs_machine && is_none why) ≡ false → committed (turn_unless why (row_of g history l).turn slices).effects ≡ []
  commits-unless history l (Some why) slices isnt = refl
  commits-unless history (line.File name bytes) None slices isnt = absurd (false≢true (sym isnt))
  commits-unless history (line.Boot name) None slices isnt = absurd (false≢true (sym isnt))
  commits-unless history (line.Type bytes) None slices isnt = absurd (false≢true (sym isnt))
  commits-unless history (line.Run count) None slices isnt = absurd (false≢true (sym isnt))
  commits-unless history (line.Unplug device) None slices isnt = absurd (false≢true (sym isnt))
  commits-unless history l None slices isnt = refl

  commits-refused : (point : Point) (why : Option Refusal) (slices : List Picked) → is_none why ≡ false → committed (turn_unless why point slices).effects ≡ []
  commits-refused point (Some why) slices isnt = refl
  commits-refused point None slices isnt = absurd (false≢true (sym isnt))

  pub commits-none : (history : List Record) (command : Command) (slices : List Picked) → needs_machine g history command ≡ false → committed (turn g history command slices).effects ≡ []
  commits-none history (Says l) slices isnt = commits-unless history l (row_of g history l).refusal slices isnt
  commits-none history (Generates image typed processes) slices isnt = commits-refused (generator_turn g.told history image typed processes) (generator_refusal history) slices isnt
  commits-none history _ slices isnt = refl
