-- Who has a body in a group, and which segment it holds, beside what is told: after each act.
use Rattle.std.proofs.Common.{◌≡◌, ℕ, ◌<◌, ◌≤◌, ◌==◌, if◌then◌else◌, Bool, true, false, Option, Some, None, refl, sym, ap, subst, ◌∙◌, arith}
use Rattle.std.proofs.lemmas.Bool.Decides.{nat_tests}
use Rattle.std.proofs.lemmas.Bool.{eqb-true, eqb-false}
use Rattle.std.proofs.lemmas.Option.{same_Some}
use Rattle.acts_model.specs.Acts.{Act, Returns, Receives, Gives, Starts, Forks, Founds, Shares, Leaves, Delivers, beginning_of, child_view, cut_off, delivered, done_by, restored, with_fresh_segment, Exits, Faults, Dies}
use Rattle.acts_model.specs.Bodies.{Body, Bodies, View, body_at, put, remove, seen}
use Rattle.acts_model.specs.Views.{reach, with_result, written}
use Rattle.arn_base.specs.Window.{with_bytes}
use Rattle.history_model.specs.Groups.{Groups}
use Rattle.history_model.specs.Moments.{changed}
use Rattle.past_lives.proofs.Bodies.{put-body, remove-body}
use Rattle.past_lives.proofs.Does.{act_groups, act_held, act_live}
use Rattle.past_lives.proofs.Sound.{reach-body}

-- a body, or none, is what is told
abbrev pub Tells : Option Body → Bool → Option ℕ → Type 0
Tells None live held = live ≡ false
Tells (Some x) live held = (live ≡ true) × (x.segment ≡ held)

-- of each member, and of each number above the greatest: that has none
pub record Lives (g : ℕ) (groups : Groups) (most : ℕ) (live : ℕ → Bool) (held : ℕ → Option ℕ) (b : Bodies) : Type 0 where
  pub tells : (p : ℕ) → groups p ≡ Some g → Tells (body_at b p) (live p) (held p)
  pub unborn : (p : ℕ) → most < p → (body_at b p ≡ None) × (live p ≡ false)

pub unborn-tells : (b : Bodies) (live : ℕ → Bool) (p : ℕ) (held : Option ℕ) → (body_at b p ≡ None) × (live p ≡ false) → Tells (body_at b p) (live p) held
unborn-tells b live p held u = subst (λ (o : Option Body). Tells o (live p) held) (sym u.0) u.1

-- the same functions, point by point
pub lives-as : (g : ℕ) (groups groups' : Groups) (most : ℕ) (live live' : ℕ → Bool) (held held' : ℕ → Option ℕ) (b : Bodies)
    → ((p : ℕ) → groups' p ≡ groups p) → ((p : ℕ) → live' p ≡ live p) → ((p : ℕ) → held' p ≡ held p)
    → Lives g groups most live held b → Lives g groups' most live' held' b
lives-as g groups groups' most live live' held held' b h1 h2 h3 h4 = grind (arith, nat_tests)

-- a number more that isn't reached
pub lives-more : (g : ℕ) (groups : Groups) (most most' : ℕ) (live : ℕ → Bool) (held : ℕ → Option ℕ) (b : Bodies) → most ≤ most' → Lives g groups most live held b → Lives g groups most' live held b
lives-more g groups most most' live held b le s = record { tells = s.tells; unborn = λ p l. s.unborn p (omega arith) }

-- a member's body
pub record IsLive (b : Bodies) (pid : ℕ) (v : View) (live : ℕ → Bool) (held : ℕ → Option ℕ) : Type 0 where
  pub alive : live pid ≡ true
  pub segment : v.body.segment ≡ held pid

pub is-live : (g : ℕ) (groups : Groups) (most : ℕ) (live : ℕ → Bool) (held : ℕ → Option ℕ) (b : Bodies) (pid : ℕ) (v : View)
    → groups pid ≡ Some g → seen b pid ≡ Some v → Lives g groups most live held b → IsLive b pid v live held
is-live g groups most live held b pid v h1 h2 h3 = grind (arith, nat_tests, same_Some)

-- an own process is no greater than the greatest
pub counted : (g : ℕ) (groups : Groups) (most : ℕ) (live : ℕ → Bool) (held : ℕ → Option ℕ) (b : Bodies) (pid p : ℕ) → live pid ≡ true → Lives g groups most live held b → most < p → p ≡ pid → ⊥
counted g groups most live held b pid p is s above same = let dead = (s.unborn p above).1 in let there = ap live same ∙ is in cc

module _ (g : ℕ) (groups : Groups) (most : ℕ) (live : ℕ → Bool) (held : ℕ → Option ℕ) (b : Bodies) (pid : ℕ) where
  -- another body of a process, which holds this now
  pub put-lives : (w : View) (segment : Option ℕ) → live pid ≡ true → w.body.segment ≡ segment → Lives g groups most live held b → Lives g groups most live (changed held pid segment) (put pid w b)
  put-lives w segment h1 h2 h3 = grind (arith, nat_tests, counted, eqb-true, put-body)

  changed-same : (segment : Option ℕ) (p : ℕ) → segment ≡ held pid → held p ≡ changed held pid segment p
  changed-same segment p h1 = grind (arith, nat_tests, eqb-true)

  -- one that holds what it held
  kept-lives : (v w : View) → IsLive b pid v live held → w.body.segment ≡ v.body.segment → Lives g groups most live held b → Lives g groups most live held (put pid w b)
  kept-lives v w is same s =
      lives-as g groups groups most live live (changed held pid w.body.segment) held (put pid w b) (λ p. refl) (λ p. refl) (λ p. changed-same w.body.segment p (same ∙ is.segment))
      (put-lives w w.body.segment is.alive refl s)

  -- none any more
  remove-lives : Lives g groups most live held b → Lives g groups most (λ p. if pid == p then false else live p) held (remove pid b)
  remove-lives h1 = grind (arith, nat_tests, eqb-false, eqb-true, remove-body)

pub born-lives : (g : ℕ) (groups : Groups) (group : Option ℕ) (most most' : ℕ) (live : ℕ → Bool) (held : ℕ → Option ℕ) (b : Bodies) (child : ℕ) (w : View) (segment : Option ℕ)
    → most ≤ most' → child ≤ most' → w.body.segment ≡ segment → Lives g groups most live held b
    → Lives g (changed groups child group) most' (λ p. if child == p then true else live p) (changed held child segment) (put child w b)
born-lives g groups group most most' live held b child w segment h1 h2 h3 h4 = grind (arith, nat_tests, eqb-false, eqb-true, put-body)

-- one is born that is of another group
pub other-lives : (g : ℕ) (groups : Groups) (group : Option ℕ) (most most' : ℕ) (live : ℕ → Bool) (held : ℕ → Option ℕ) (b : Bodies) (child : ℕ) (segment : Option ℕ)
    → most ≤ most' → child ≤ most' → (group ≡ Some g → ⊥) → Lives g groups most live held b
    → Lives g (changed groups child group) most' (λ p. if child == p then true else live p) (changed held child segment) b
other-lives g groups group most most' live held b child segment h1 h2 h3 h4 = grind (arith, nat_tests, eqb-false, eqb-true)

-- or is to be born later than the moment: only groups tell of it
pub later-lives : (g : ℕ) (groups : Groups) (group : Option ℕ) (most most' : ℕ) (live : ℕ → Bool) (held : ℕ → Option ℕ) (b : Bodies) (child : ℕ)
    → most ≤ most' → most < child → Lives g groups most live held b → Lives g (changed groups child group) most' live held b
later-lives g groups group most most' live held b child h1 h2 h3 = grind (arith, nat_tests, eqb-true, unborn-tells)

-- a child has a number that is new, and is counted from then on
abbrev pub IsChild : ℕ → ℕ → Act → Type 0
IsChild most most' (Forks child) = (most < child) × (child ≤ most')
IsChild most most' (Founds child) = (most < child) × (child ≤ most')
IsChild most most' act = Unit {0}

-- the act starts this group
abbrev pub IsFounding : ℕ → Act → Type 0
IsFounding g (Founds child) = child ≡ g
IsFounding g act = ⊥

restored-segment : (v : View) → (restored v.body.slot v).body.segment ≡ v.body.segment
restored-segment v = grind (arith, nat_tests)

-- the act of a member
pub own-lives : (g event : ℕ) (groups : Groups) (most most' : ℕ) (live : ℕ → Bool) (held : ℕ → Option ℕ) (b : Bodies) (pid : ℕ) (v : View) (act : Act)
    → most ≤ most' → IsChild most most' act → (IsFounding g act → ⊥) → IsLive b pid v live held → Lives g groups most live held b
    → Lives g (act_groups act pid groups) most' (act_live act pid live) (act_held event act pid held) (done_by pid event act (Some v) b)
own-lives g event groups most most' live held b pid v (Returns result) more c f is s = lives-more g groups most most' live held _ more (kept-lives g groups most live held b pid v (with_result result v) is refl s)
own-lives g event groups most most' live held b pid v (Receives at bytes result) more c f is s =
    lives-more g groups most most' live held _ more
    (kept-lives g groups most live held b pid v (with_result result (written at bytes v)) is (ap (λ x. x.segment) (reach-body (with_bytes (reach v) at bytes) v)) s)
own-lives g event groups most most' live held b pid v (Gives at len result) more c f is s = lives-more g groups most most' live held _ more (kept-lives g groups most live held b pid v (with_result result v) is refl s)
own-lives g event groups most most' live held b pid v (Starts file block block_len) more c f is s = lives-more g groups most most' live (changed held pid None) _ more (put-lives g groups most live held b pid _ None is.alive refl s)
own-lives g event groups most most' live held b pid v (Forks child) more c f is s =
    let w = child_view event (beginning_of v) v.body.segment v.segment in
    born-lives g groups (groups pid) most most' live held (put pid (with_result child v) b) child w (held pid) more c.1 is.segment
    (kept-lives g groups most live held b pid v (with_result child v) is refl s)
own-lives g event groups most most' live held b pid v (Founds child) more c f is s =
    other-lives g groups (Some child) most most' live held (put pid (with_result child v) b) child None more c.1 (λ e. f (same_Some child g e))
    (kept-lives g groups most live held b pid v (with_result child v) is refl s)
own-lives g event groups most most' live held b pid v Shares more c f is s =
    lives-more g groups most most' live (changed held pid (Some event)) _ more (put-lives g groups most live held b pid (with_result 0 (with_fresh_segment event v)) (Some event) is.alive refl s)
own-lives g event groups most most' live held b pid v Leaves more c f is s =
    lives-more g groups most most' live held _ more (kept-lives g groups most live held b pid v (restored v.body.slot v) is (restored-segment v) s)
own-lives g event groups most most' live held b pid v (Delivers signal handler cut) more c f is s =
    lives-more g groups most most' live held _ more (kept-lives g groups most live held b pid v (delivered signal handler (cut_off cut v.body.cpu) v) is refl s)
own-lives g event groups most most' live held b pid v _ more c f is s = lives-more g groups most most' _ held _ more (remove-lives g groups most live held b pid s)

-- the act of a process of another group
module _ (g : ℕ) (groups : Groups) (most most' : ℕ) (live : ℕ → Bool) (held : ℕ → Option ℕ) (b : Bodies) (pid : ℕ) (other : groups pid ≡ Some g → ⊥) (more : most ≤ most') where
  stranger-held : (segment : Option ℕ) → Lives g groups most live held b → Lives g groups most' live (changed held pid segment) b
  stranger-held segment h1 = grind (arith, nat_tests, eqb-true)

  stranger-ends : Lives g groups most live held b → Lives g groups most' (λ p. if pid == p then false else live p) held b
  stranger-ends h1 = grind (arith, nat_tests, eqb-true)

pub stranger-lives : (g event : ℕ) (groups : Groups) (most most' : ℕ) (live : ℕ → Bool) (held : ℕ → Option ℕ) (b : Bodies) (pid : ℕ) (act : Act)
    → most ≤ most' → IsChild most most' act → (IsFounding g act → ⊥) → (groups pid ≡ Some g → ⊥) → Lives g groups most live held b
    → Lives g (act_groups act pid groups) most' (act_live act pid live) (act_held event act pid held) b
stranger-lives g event groups most most' live held b pid (Returns result) more c f other s = lives-more g groups most most' live held b more s
stranger-lives g event groups most most' live held b pid (Receives at bytes result) more c f other s = lives-more g groups most most' live held b more s
stranger-lives g event groups most most' live held b pid (Gives at len result) more c f other s = lives-more g groups most most' live held b more s
stranger-lives g event groups most most' live held b pid (Starts file block block_len) more c f other s = stranger-held g groups most most' live held b pid other more None s
stranger-lives g event groups most most' live held b pid (Forks child) more c f other s = other-lives g groups (groups pid) most most' live held b child (held pid) more c.1 other s
stranger-lives g event groups most most' live held b pid (Founds child) more c f other s = grind (arith, nat_tests)
stranger-lives g event groups most most' live held b pid Shares more c f other s = stranger-held g groups most most' live held b pid other more (Some event) s
stranger-lives g event groups most most' live held b pid Leaves more c f other s = lives-more g groups most most' live held b more s
stranger-lives g event groups most most' live held b pid (Delivers signal handler cut) more c f other s = lives-more g groups most most' live held b more s
stranger-lives g event groups most most' live held b pid Exits more c f other s = stranger-ends g groups most most' live held b pid other more s
stranger-lives g event groups most most' live held b pid (Faults status) more c f other s = stranger-ends g groups most most' live held b pid other more s
stranger-lives g event groups most most' live held b pid (Dies signal cut) more c f other s = stranger-ends g groups most most' live held b pid other more s

-- an act that comes later than the moment: only groups tell of it
pub later-act-lives : (g : ℕ) (groups : Groups) (most most' : ℕ) (live : ℕ → Bool) (held : ℕ → Option ℕ) (b : Bodies) (pid : ℕ) (act : Act)
    → most ≤ most' → IsChild most most' act → Lives g groups most live held b → Lives g (act_groups act pid groups) most' live held b
later-act-lives g groups most most' live held b pid act h1 h2 h3 = grind (arith, nat_tests, later-lives, lives-more)
