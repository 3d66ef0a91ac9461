use Rattle.std.proofs.Common.{◌≡◌, ◌||◌, nat_lt, Bool, true, false, Option, None, Some, refl, IfSome, IsSome, sym, ap, subst, ◌∙◌, arith}
use Rattle.parts_model.specs.Files.{File, Files, has_name}
use Rattle.parts_model.specs.Numbered.{nth}
use Rattle.guest_files.specs.Table.{IsThere}
use Rattle.guest_files.proofs.FileForms.{IsSound-gone, reached-kept}
use Rattle.guest_files.proofs.Numbers.{IsSome-within, how_many-set_none}
use Rattle.guest_files.proofs.files.Files.drop_unreached.Goals as goal
use Rattle.guest_files.proofs.files.Files.drop_unreached.Goals.{then-has_file-via-then-has_file, then-has_file-via-else-has_file+then-is_held}

by_name : (o : Option File) (named : Bool) → named ≡ true → IfSome o (λ f. named || nat_lt 0 f.holders ≡ true)
by_name None named is = tt
by_name (Some f) named is = rw is refl

by_holder : (o : Option File) (named held : Bool) → held ≡ true → IfSome o (λ f. held ≡ nat_lt 0 f.holders) → IfSome o (λ f. named || nat_lt 0 f.holders ≡ true)
by_holder None named held is holds = tt
by_holder (Some f) true held is holds = refl
by_holder (Some f) false held is holds = sym holds ∙ is

pub returns-then-has_file : goal.returns-then-has_file
returns-then-has_file c =
    let files = c.args.self.now in
    let has = c.has_file.ensures ∙ ap (λ (fs : Files). has_name fs.names c.args.file) c.self.view_is in
    reached-kept files c.args.file (elim c.then-has_file.branch [
      | then-has_file-via-then-has_file w ↦ by_name (nth files.all c.args.file) (has_name files.names c.args.file) (sym has ∙ w.if-has_file.true)
      | then-has_file-via-else-has_file+then-is_held w ↦ by_holder (nth files.all c.args.file) (has_name files.names c.args.file) w.is_held.result w.if-is_held.true w.is_held.ensures
    ])

pub index_mut-requires : goal.index_mut-requires
index_mut-requires c =
    let there : IsSome (nth c.self.inside.all.items c.args.file) = subst (λ (fs : Files). IsThere fs c.args.file) (sym c.self.view_is) c.requires in
    omega (arith, IsSome-within c.self.inside.all.items c.args.file there)

pub overflow_sub-self : goal.overflow_sub-self
overflow_sub-self c =
    let there : IsSome (nth c.self.inside.all.items c.args.file) = subst (λ (fs : Files). IsThere fs c.args.file) (sym c.self.view_is) c.requires in
    omega (arith, c.self.invariant.counted, how_many-set_none c.self.inside.all.items c.args.file there)

pub invariant_of-self : goal.invariant_of-self
invariant_of-self c =
    let there : IsSome (nth c.self.inside.all.items c.args.file) = subst (λ (fs : Files). IsThere fs c.args.file) (sym c.self.view_is) c.requires in
    IsSound-gone _ _ _ _ there (sym c.has_file.ensures ∙ c.if-has_file.false) c.self.invariant
