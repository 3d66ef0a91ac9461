-- The lists tell each group's members, also with one more process.
use Rattle.std.proofs.Common.{◌≡◌, ◌≢◌, inl, inr, ℕ, zero, suc, ◌+◌, ◌-◌, ◌<◌, List, [], ◌∷◌, ◌++◌, length, get_or, set, refl, ap, sym, subst, ◌∙◌, arith, length-append, length-set}
use Rattle.std.proofs.Math.Seq.{get_or-append_seam}
use Rattle.std.proofs.lemmas.List.{get_or-set_same, get_or-set_other, get_or_past}
use Rattle.std.proofs.lemmas.Bool.Decides.{eqb_tells}
use Rattle.replay_groups.specs.Groups.{members_from, members_of, IsStarted}
use Rattle.replay_groups.specs.Sound.{list_of, TellsMembers}
use Rattle.replay_groups.proofs.Started.{group_at-next, started-some, started-inside, started-later, all-started}

-- one more process, which is in the group
pub members-same : (groups : List ℕ) (pid group next : ℕ) → pid + length groups ≡ next → members_from pid group (groups ++ group ∷ []) ≡ members_from pid group groups ++ next ∷ []
members-same [] pid group next is =
    let e : pid ≡ next = omega arith in
    elim (eqb_tells group group) [ inl h ↦ rw h.0 (ap (λ (n : ℕ). n ∷ []) e) | inr h ↦ absurd (h.1 refl) ]
members-same (g ∷ groups) pid group next is =
    let rest = members-same groups (pid + 1) group next (omega arith) in
    elim (eqb_tells g group) [ inl h ↦ rw h.0 (ap (λ (ms : List ℕ). pid ∷ ms) rest) | inr h ↦ rw h.0 rest ]

-- or in another
pub members-other : (groups : List ℕ) (pid group other : ℕ) → other ≢ group → members_from pid group (groups ++ other ∷ []) ≡ members_from pid group groups
members-other [] pid group other differs =
    elim (eqb_tells other group) [ inl h ↦ absurd (differs h.1) | inr h ↦ rw h.0 refl ]
members-other (g ∷ groups) pid group other differs =
    let rest = members-other groups (pid + 1) group other differs in
    elim (eqb_tells g group) [ inl h ↦ rw h.0 (ap (λ (ms : List ℕ). pid ∷ ms) rest) | inr h ↦ rw h.0 rest ]

-- the list of the group that may be started next
list_of-past : (lists : List (List ℕ)) (group : ℕ) → group ≡ length lists + 1 → list_of lists group ≡ []
list_of-past lists zero is = refl
list_of-past lists (suc i) is = get_or_past lists i [] (omega arith)

list_of-last : (lists : List (List ℕ)) (last : List ℕ) (group : ℕ) → group ≡ length lists + 1 → list_of (lists ++ last ∷ []) group ≡ last
list_of-last lists last zero is = absurd (omega arith)
list_of-last lists last (suc i) is =
    let e : i ≡ length lists = omega arith in
    rw e (get_or-append_seam lists last [] [])

list_of-other : (lists : List (List ℕ)) (last : List ℕ) (group : ℕ) → group ≢ length lists + 1 → list_of (lists ++ last ∷ []) group ≡ list_of lists group
list_of-other lists last zero differs = refl
list_of-other [] last (suc zero) differs = absurd (differs refl)
list_of-other [] last (suc (suc i)) differs = refl
list_of-other (l ∷ lists) last (suc zero) differs = refl
list_of-other (l ∷ lists) last (suc (suc i)) differs =
    list_of-other lists last (suc i) (λ e. differs (omega arith))

list_of-set_same : (lists : List (List ℕ)) (list : List ℕ) (group : ℕ) → 0 < group → group - 1 < length lists → list_of (set lists (group - 1) list) group ≡ list
list_of-set_same lists list zero some inside = absurd (omega arith)
list_of-set_same lists list (suc i) some inside =
    let e : suc i - 1 ≡ i = omega arith in
    let within : i < length lists = omega arith in
    rw e (get_or-set_same lists i list [] within)

list_of-set_other : (lists : List (List ℕ)) (list : List ℕ) (group other : ℕ) → 0 < group → other ≢ group → list_of (set lists (group - 1) list) other ≡ list_of lists other
list_of-set_other lists list group zero some differs = refl
list_of-set_other lists list group (suc i) some differs =
    let apart : i ≢ group - 1 = omega arith in get_or-set_other lists (group - 1) i list [] apart

list_of-place : (lists : List (List ℕ)) (group : ℕ) → 0 < group → get_or lists (group - 1) [] ≡ list_of lists group
list_of-place lists zero some = absurd (omega arith)
list_of-place lists (suc i) some = let e : suc i - 1 ≡ i = omega arith in rw e refl

-- a process that starts a group
started-list : (groups : List ℕ) (lists : List (List ℕ)) (pid group : ℕ) → TellsMembers groups lists → pid ≡ length groups + 1 → list_of (lists ++ (pid ∷ []) ∷ []) group ≡ members_of (groups ++ pid ∷ []) group
started-list groups lists pid group tells next =
    let len = tells.same_length in
    elim (eqb_tells pid group) [
      | inl h ↦
          let last : group ≡ length lists + 1 = omega arith in
          let none : members_of groups group ≡ [] = sym (tells.members group) ∙ list_of-past lists group last in
          rw h.1 (list_of-last lists (group ∷ []) group last ∙ sym (members-same groups 1 group group (omega arith) ∙ ap (λ (ms : List ℕ). ms ++ group ∷ []) none))
      | inr h ↦
          let differs : group ≢ length lists + 1 = omega arith in
          list_of-other lists (pid ∷ []) group differs ∙ tells.members group ∙ sym (members-other groups 1 group pid h.1)
    ]

module _ (groups : List ℕ) (lists : List (List ℕ)) (pid : ℕ) (tells : TellsMembers groups lists) (next : pid ≡ length groups + 1) where
  pub started : (last : List ℕ) (new_groups : List ℕ) (new_lists : List (List ℕ)) → new_groups ≡ groups ++ pid ∷ [] → new_lists ≡ lists ++ last ∷ [] → last ≡ pid ∷ [] → TellsMembers new_groups new_lists
  started last new_groups new_lists groups_are lists_are last_is = rw (groups_are, lists_are, last_is) (record {
    same_length = simp length-append (ap (λ (n : ℕ). n + 1) tells.same_length);
    members = λ group. started-list groups lists pid group tells next;
    started = all-started groups pid tells.started (group_at-next groups pid pid next);
  })

-- the lists after a process was added to a group that was started
grown : List (List ℕ) → ℕ → ℕ → List (List ℕ)
grown lists group pid = set lists (group - 1) (get_or lists (group - 1) [] ++ pid ∷ [])

length-grown : (lists : List (List ℕ)) (group pid : ℕ) → length (grown lists group pid) ≡ length lists
unfolding grown
length-grown lists group pid = simp length-set

grown-same : (groups : List ℕ) (lists : List (List ℕ)) (pid group : ℕ) → TellsMembers groups lists → pid ≡ length groups + 1 → 0 < group → group - 1 < length lists → list_of (grown lists group pid) group ≡ members_of (groups ++ group ∷ []) group
unfolding grown
grown-same groups lists pid group tells next some inside =
    list_of-set_same lists (get_or lists (group - 1) [] ++ pid ∷ []) group some inside ∙ ap (λ (ms : List ℕ). ms ++ pid ∷ []) (list_of-place lists group some ∙ tells.members group) ∙ sym (members-same groups 1 group pid (omega arith))

grown-other : (groups : List ℕ) (lists : List (List ℕ)) (pid group other : ℕ) → TellsMembers groups lists → 0 < group → group ≢ other → list_of (grown lists group pid) other ≡ members_of (groups ++ group ∷ []) other
unfolding grown
grown-other groups lists pid group other tells some differs =
    list_of-set_other lists (get_or lists (group - 1) [] ++ pid ∷ []) group other some (λ e. differs (sym e)) ∙ tells.members other ∙ sym (members-other groups 1 other group differs)

grown-list : (groups : List ℕ) (lists : List (List ℕ)) (pid group other : ℕ) → TellsMembers groups lists → pid ≡ length groups + 1 → 0 < group → group - 1 < length lists → list_of (grown lists group pid) other ≡ members_of (groups ++ group ∷ []) other
grown-list groups lists pid group other tells next some inside =
    elim (eqb_tells group other) [
      | inl h ↦ subst (λ (g : ℕ). list_of (grown lists group pid) g ≡ members_of (groups ++ group ∷ []) g) h.1 (grown-same groups lists pid group tells next some inside)
      | inr h ↦ grown-other groups lists pid group other tells some h.1
    ]

joined-list : (groups : List ℕ) (lists : List (List ℕ)) (pid group other : ℕ) → TellsMembers groups lists → pid ≡ length groups + 1 → 0 < group → group - 1 < length lists → list_of (grown lists group pid ++ [] ∷ []) other ≡ members_of (groups ++ group ∷ []) other
joined-list groups lists pid group other tells next some inside =
    let all = grown-list groups lists pid group other tells next some inside in
    let len = length-grown lists group pid in
    let same = tells.same_length in
    elim (eqb_tells pid other) [
      | inl h ↦
          let last : other ≡ length (grown lists group pid) + 1 = omega arith in
          list_of-last (grown lists group pid) [] other last ∙ sym (list_of-past (grown lists group pid) other last) ∙ all
      | inr h ↦
          let differs : other ≢ length (grown lists group pid) + 1 = omega arith in
          list_of-other (grown lists group pid) [] other differs ∙ all
    ]

-- a group that was started has a list
started-listed : (groups : List ℕ) (lists : List (List ℕ)) (group : ℕ) → TellsMembers groups lists → IsStarted groups group → group - 1 < length lists
started-listed groups lists group tells is_started =
    let inside = started-inside groups group is_started in
    let same = tells.same_length in omega (arith, inside, same)

-- a process that joins a group
module _ (groups : List ℕ) (lists : List (List ℕ)) (pid : ℕ) (tells : TellsMembers groups lists) (next : pid ≡ length groups + 1) where
  pub joined : (group : ℕ) (last : List ℕ) (new_groups : List ℕ) (pushed new_lists : List (List ℕ)) → IsStarted groups group → new_groups ≡ groups ++ group ∷ [] → pushed ≡ set lists (group - 1) (get_or lists (group - 1) [] ++ pid ∷ []) → new_lists ≡ pushed ++ last ∷ [] → last ≡ [] → TellsMembers new_groups new_lists
  joined group last new_groups pushed new_lists is_started groups_are pushed_is lists_are last_is =
      rw (groups_are, lists_are, pushed_is, last_is) (record {
        same_length = simp (length-append, length-set) (ap (λ (n : ℕ). n + 1) tells.same_length);
        members = λ other. unfold grown in joined-list groups lists pid group other tells next (started-some groups group is_started) (started-listed groups lists group tells is_started);
        started = all-started groups group tells.started (started-later groups group group is_started);
      })
