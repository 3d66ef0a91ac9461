-- The definitions on small values.
use Rattle.std.proofs.Common.{◌≡◌, ◌+◌, ◌==◌, if◌then◌else◌, true, false, [], ◌∷◌, Some, None, refl}
use Rattle.exchange_graph.specs.Links.{byte_links, ends_of, begins_of}
use Rattle.exchange_graph.specs.Rows.{row_of, row_with}
use Rattle.exchange_graph.specs.Search.{with_marks, marked_from, unmarked}
use Rattle.exchange_graph.proofs.Edges.{link}

row-there : row_of ([] ∷ (2 ∷ 3 ∷ []) ∷ []) 1 ≡ 2 ∷ 3 ∷ []
row-there = refl

row-absent : row_of ([] ∷ (2 ∷ 3 ∷ []) ∷ []) 2 ≡ []
row-absent = refl

row-longer : row_with ([] ∷ (2 ∷ []) ∷ []) 1 3 1 ≡ 2 ∷ 3 ∷ []
row-longer = refl

row-other : row_with ([] ∷ (2 ∷ []) ∷ []) 1 3 0 ≡ []
row-other = refl

-- 0 is found already, and 2 is found once
marks-once : with_marks (record { marks = true ∷ false ∷ false ∷ []; waiting = [] }) (0 ∷ 2 ∷ 2 ∷ []) ≡ record { marks = true ∷ false ∷ true ∷ []; waiting = 2 ∷ [] }
marks-once = refl

marks-listed : marked_from 0 (true ∷ false ∷ true ∷ []) ≡ 0 ∷ 2 ∷ []
marks-listed = refl

marks-left : unmarked (true ∷ false ∷ true ∷ []) ≡ 1
marks-left = refl

-- event 0 has no group
links-told : byte_links (λ n. if n == 0 then None else Some (n + 1)) (Some 9) (record { event = 0; at = 0; len = 1 } ∷ record { event = 3; at = 0; len = 1 } ∷ []) ≡ link 4 9 ∷ []
links-told = refl

-- what comes to no group makes no link
links-untold : byte_links (λ n. Some 1) None (record { event = 0; at = 0; len = 1 } ∷ []) ≡ []
links-untold = refl

ends-told : ends_of (link 1 2 ∷ link 3 2 ∷ link 1 3 ∷ []) 1 ≡ 2 ∷ 3 ∷ []
ends-told = refl

begins-told : begins_of (link 1 2 ∷ link 3 2 ∷ link 1 3 ∷ []) 2 ≡ 1 ∷ 3 ∷ []
begins-told = refl
