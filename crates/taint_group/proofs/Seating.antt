-- Tables in which a member begins with a window of its own.
use Rattle.std.proofs.Common.{◌≡◌, ◌⊎◌, inl, inr, ℕ, ◌==◌, Bool, true, false, map, length, Some, None, option_map, refl, sym, subst, ap, ◌∙◌}
use Rattle.std.proofs.lemmas.Bool.{eqb-true, eqb-false}
use Rattle.parts_model.specs.Numbered.{nth}
use Rattle.taint_members.specs.declared.member.MemberSets.{MemberSets}
use Rattle.taint_members.specs.declared.member.NewMember.{NewMember}
use Rattle.taint_steps.specs.Table.{Tables}
use Rattle.taint_state.specs.Events.{PutsSeen}
use Rattle.taint_state.specs.RunsShow.{kept_member}
use Rattle.taint_group.specs.Moves.{AreHeldOnce, Seats, seated}
use Rattle.taint_group.specs.Tables.{AreKeyed}
use Rattle.taint_group.specs.declared.memories.MemoryKind.{MemoryKind}
use Rattle.taint_group.specs.declared.memories.MemoryKind.TheVariants.{Segment, Window}
use Rattle.taint_group.proofs.Keyed.{IsFrom, puts-keyed, tables-seen}

some-same : (a b : MemberSets) → Some a ≡ Some b → a ≡ b
some-same a b e = cc

-- the segment of a member that begins is none, or that of one that was there
abbrev pub ShareSegment : Tables → NewMember → Type 0
ShareSegment x m = ((q : ℕ) × (n : MemberSets) × (nth x.members q ≡ Some n) × (m.segment ≡ n.segment)) ⊎ (m.segment ≡ None)

module _ (pid event : ℕ) (m : NewMember) (x y : Tables) (keyed : AreKeyed x) (seats : Seats pid event m x.members y.members x.memories y.memories) (shares : ShareSegment x m) where
  abbrev pub new : MemberSets
  new = seated m event seats.key

  from-new : (kind : MemoryKind) → IsFrom Window (record { made = event; key = seats.key }) x kind new
  from-new Window = inl (refl, refl)
  from-new Segment = inr shares

  pub seat-keyed : AreKeyed y
  seat-keyed = puts-keyed Window event seats.key m.window x y keyed seats.own seats.put (λ kind p k e. from kind p k e (p == pid) refl)
    where
      from : (kind : MemoryKind) (p : ℕ) (k : MemberSets) → nth y.members p ≡ Some k → (b : Bool) → (p == pid) ≡ b → IsFrom Window (record { made = event; key = seats.key }) x kind k
      from kind p k e true t =
          let both : Some new ≡ Some k = sym seats.placed.one ∙ (ap (λ q. nth y.members q) (sym (eqb-true p pid t)) ∙ e) in
          subst (λ n. IsFrom Window (record { made = event; key = seats.key }) x kind n) (some-same new k both) (from-new kind)
      from kind p k e false t = inr (inl (p, k, sym (seats.placed.others p (eqb-false p pid t)) ∙ e, refl))

  pub seat-seen : PutsSeen pid (kept_member y.memories new) (map (option_map (kept_member x.memories)) x.members) (map (option_map (kept_member y.memories)) y.members)
  seat-seen = tables-seen x y pid new Window (record { made = event; key = seats.key }) seat-keyed seats.placed.one refl seats.put.others seats.placed.others

-- memories that tables keep have their keys
pub held-once : (x : Tables) → AreKeyed x → AreHeldOnce (length x.memories) x.members
held-once x keyed = record {
  below = λ kind p. keyed.held kind p;
  once = λ kind other p q. keyed.once kind other p q;
}
