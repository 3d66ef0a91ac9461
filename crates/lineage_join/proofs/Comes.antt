-- What comes as waits and pairs are added.
use Rattle.std.proofs.Common.{◌≡◌, ◌↔◌, ℕ, ◌+◌, ◌<◌, ◌≤◌, List, [], ◌∷◌, ◌++◌, length, map, take, get_or, Contains, refl, sym, ap, subst, ◌∙◌, inl, inr, arith}
use Rattle.std.proofs.lemmas.List.{map-append, take_more, take_all}
use Rattle.std.proofs.lemmas.List.Elements.{Contains-append_left, Contains-push, Contains-push_cases}
use Rattle.arn_base.specs.declared.records.Pair.{Pair}
use Rattle.lineage_model.specs.Tracking.{EventByte}
use Rattle.lineage_join.specs.declared.wait.Wait.{Wait}
use Rattle.lineage_join.specs.Rising.{source_of}
use Rattle.lineage_join.specs.Waits.{LeadsTo, Leads, ComesAlso, HasAlso, HasPairs, IsStepped, level}
use Rattle.lineage_join.proofs.Rises.{none_in, front, cases}

only : (w v : Wait) → Contains (w ∷ []) v → w ≡ v
only w v c = elim (cases w [] v c) [ inl e ↦ e | inr d ↦ absurd (none_in v d) ]

pub same-level : (w v : Wait) → w ≡ v → level v ≤ level w
same-level w v e = let same : level w ≡ level v = ap (λ (x : Wait). level x) e in omega arith

module _ (from : Wait → List EventByte) where
  pub leads-one : (w : Wait) (p : Pair) → LeadsTo from w p → Leads from (w ∷ []) p
  leads-one w p l = (w, front w [], l)

  pub one-leads : (w : Wait) (p : Pair) → Leads from (w ∷ []) p → LeadsTo from w p
  one-leads w p l = subst (λ (v : Wait). LeadsTo from v p) (sym (only w l.0 l.1)) l.2

  pub none-also : (ws : List Wait) (ps : List Pair) → ComesAlso from ws ps [] ws ps
  none-also ws ps = record {
    comes = λ p. (λ c. inl c, λ s. elim s [ inl c ↦ c | inr l ↦ absurd (none_in l.0 l.1) ]);
    falls = λ v c. inl c;
  }

  -- one more waits
  pub waits-also : (ws vs : List Wait) (ps : List Pair) (w : Wait) → HasAlso ws w vs → ComesAlso from ws ps (w ∷ []) vs ps
  waits-also ws vs ps w h = record {
    comes = λ p. (
      λ c. elim c [
        | inl d ↦ inl (inl d)
        | inr l ↦ elim ((h l.0).0 l.1) [ inl d ↦ inl (inr (l.0, d, l.2)) | inr e ↦ inr (leads-one w p (subst (λ (v : Wait). LeadsTo from v p) (sym e) l.2)) ]
      ],
      λ s. elim s [
        | inl c ↦ elim c [ inl d ↦ inl d | inr l ↦ inr (l.0, (h l.0).1 (inl l.1), l.2) ]
        | inr l ↦ inr (w, (h w).1 (inr refl), one-leads w p l)
      ],
    );
    falls = λ v c. elim ((h v).0 c) [ inl d ↦ inl d | inr e ↦ inr (w, front w [], same-level w v e) ];
  }

  -- its pairs are found
  pub found-also : (ws : List Wait) (ps qs : List Pair) (w : Wait) (bytes : List EventByte) → from w ≡ bytes → HasPairs ps w.byte bytes qs → ComesAlso from ws ps (w ∷ []) ws qs
  found-also ws ps qs w bytes is has = record {
    comes = λ p. (
      λ c. elim c [
        | inl d ↦ elim ((has p).0 d) [ inl x ↦ inl (inl x) | inr x ↦ inr (leads-one w p (x.0, subst (λ (y : List EventByte). Contains y (source_of p)) (sym is) x.1)) ]
        | inr l ↦ inl (inr l)
      ],
      λ s. elim s [
        | inl c ↦ elim c [ inl d ↦ inl ((has p).1 (inl d)) | inr l ↦ inr l ]
        | inr l ↦ (let to = one-leads w p l in inl ((has p).1 (inr (to.0, subst (λ (y : List EventByte). Contains y (source_of p)) is to.1))))
      ],
    );
    falls = λ v c. inl c;
  }

  -- it leads to nothing
  pub nothing-also : (ws : List Wait) (ps : List Pair) (w : Wait) → from w ≡ [] → ComesAlso from ws ps (w ∷ []) ws ps
  nothing-also ws ps w is = found-also ws ps ps w [] is (λ p. (λ c. inl c, λ s. elim s [ inl c ↦ c | inr x ↦ absurd (none_in (source_of p) x.1) ]))

  -- some in the place of one
  module _ (ws vs : List Wait) (ps qs : List Pair) (more : List Wait) (h : ComesAlso from ws ps more vs qs) where
    pub instead : (w : Wait) → ((p : Pair) → Leads from more p ↔ LeadsTo from w p) → ((v : Wait) → Contains more v → level v ≤ level w) → ComesAlso from ws ps (w ∷ []) vs qs
    instead w same low = record {
      comes = λ p. (
        λ c. elim ((h.comes p).0 c) [ inl d ↦ inl d | inr l ↦ inr (leads-one w p ((same p).0 l)) ],
        λ s. (h.comes p).1 (elim s [ inl d ↦ inl d | inr l ↦ inr ((same p).1 (one-leads w p l)) ]),
      );
      falls = λ v c. elim (h.falls v c) [ inl d ↦ inl d | inr s ↦ (let below = low s.0 s.1 in let within : level v ≤ level s.0 = s.2 in inr (w, front w [], omega arith)) ];
    }

    pub stepped : (w : Wait) → ((p : Pair) → Leads from more p ↔ LeadsTo from w p) → ((v : Wait) → Contains more v → level v < level w) → IsStepped from ws ps w vs qs
    stepped w same low = record {
      comes = λ p. (
        λ c. elim ((h.comes p).0 c) [ inl d ↦ inl d | inr l ↦ inr ((same p).0 l) ],
        λ s. (h.comes p).1 (elim s [ inl d ↦ inl d | inr l ↦ inr ((same p).1 l) ]),
      );
      falls = λ v c. elim (h.falls v c) [ inl d ↦ inl d | inr s ↦ (let below = low s.0 s.1 in let within : level v ≤ level s.0 = s.2 in inr (omega arith)) ];
    }

  -- several, one after another
  module _ (ws : List Wait) (ps : List Pair) where
    pub also-more : (vs us : List Wait) (qs rs : List Pair) (list : List Wait) (w : Wait) → ComesAlso from ws ps list vs qs → ComesAlso from vs qs (w ∷ []) us rs → ComesAlso from ws ps (list ++ w ∷ []) us rs
    also-more vs us qs rs list w h k = record {
      comes = λ p. (
        λ c. elim ((k.comes p).0 c) [
          | inl d ↦ elim ((h.comes p).0 d) [ inl e ↦ inl e | inr l ↦ inr (l.0, Contains-append_left list (w ∷ []) l.0 l.1, l.2) ]
          | inr l ↦ inr (w, Contains-push list w, one-leads w p l)
        ],
        λ s. elim s [
          | inl c ↦ (k.comes p).1 (inl ((h.comes p).1 (inl c)))
          | inr l ↦ elim (Contains-push_cases list w l.0 l.1) [
            | inl d ↦ (k.comes p).1 (inl ((h.comes p).1 (inr (l.0, d, l.2))))
            | inr e ↦ (k.comes p).1 (inr (leads-one w p (subst (λ (v : Wait). LeadsTo from v p) (sym e) l.2)))
          ]
        ],
      );
      falls = λ v c. elim (k.falls v c) [
        | inl d ↦ elim (h.falls v d) [ inl e ↦ inl e | inr s ↦ inr (s.0, Contains-append_left list (w ∷ []) s.0 s.1, s.2) ]
        | inr s ↦ inr (s.0, subst (λ (x : Wait). Contains (list ++ w ∷ []) x) (only w s.0 s.1) (Contains-push list w), s.2)
      ];
    }

    module _ {X : Type 0} (f : X → Wait) (xs : List X) (i : ℕ) where
      pub push-also : (d : X) (vs us : List Wait) (qs rs : List Pair) → i < length xs → ComesAlso from ws ps (map f (take i xs)) vs qs → ComesAlso from vs qs (f (get_or xs i d) ∷ []) us rs → ComesAlso from ws ps (map f (take (i + 1) xs)) us rs
      push-also d vs us qs rs low h k =
          let more : map f (take (i + 1) xs) ≡ map f (take i xs) ++ f (get_or xs i d) ∷ [] = ap (map f) (take_more xs i d low) ∙ map-append f (take i xs) (get_or xs i d ∷ []) in
          subst (λ (list : List Wait). ComesAlso from ws ps list us rs) (sym more) (also-more vs us qs rs (map f (take i xs)) (f (get_or xs i d)) h k)

      pub all-also : (vs : List Wait) (qs : List Pair) → i ≡ length xs → ComesAlso from ws ps (map f (take i xs)) vs qs → ComesAlso from ws ps (map f xs) vs qs
      all-also vs qs is h = subst (λ (list : List X). ComesAlso from ws ps (map f list) vs qs) (take_all i xs (omega arith)) h
