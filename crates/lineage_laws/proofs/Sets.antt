-- Gathering commutes with putting sets in the place of items.
use Rattle.std.proofs.Common.{◌≡◌, List, [], ◌∷◌, ◌++◌, flat_map, refl, ap, ap₂, ◌∙◌, sym}
use Rattle.std.specs.List.{AllByRecursion}
use Rattle.std.proofs.lemmas.Grind.{flat_map-append}
use Rattle.lineage_model.specs.Flow.{Location, At, Dependence, Prior, Received}
use Rattle.lineage_model.specs.Tracking.{EventByte, gather}

-- a received byte has P
abbrev pub IfReceived : (At → Type 0) → Dependence → Type 0
IfReceived P (Prior location) = Unit {0}
IfReceived P (Received at) = P at

-- each received byte among these has it
abbrev pub EachReceived : (At → Type 0) → List Dependence → Type 0
EachReceived P dependences = AllByRecursion (IfReceived P) dependences

-- gathering what v makes of sets is what v makes of gathering
pub gather-joins : (v : EventByte → List EventByte) (i j : At → List EventByte) (a b : Location → List EventByte) → ((l : Location) → a l ≡ flat_map v (b l)) → (ds : List Dependence) → EachReceived (λ at. i at ≡ flat_map v (j at)) ds → gather i a ds ≡ flat_map v (gather j b ds)
gather-joins v i j a b ha [] h = refl
gather-joins v i j a b ha (Prior l ∷ ds) h = ap₂ ◌++◌ (ha l) (gather-joins v i j a b ha ds h.1) ∙ sym (flat_map-append v (b l) (gather j b ds))
gather-joins v i j a b ha (Received at ∷ ds) h = ap₂ ◌++◌ h.0 (gather-joins v i j a b ha ds h.1) ∙ sym (flat_map-append v (j at) (gather j b ds))

-- gathering goes by what is received alone, where locations have the same
pub gather-received : (i j : At → List EventByte) (a : Location → List EventByte) (ds : List Dependence) → EachReceived (λ at. i at ≡ j at) ds → gather i a ds ≡ gather j a ds
gather-received i j a [] h = refl
gather-received i j a (Prior l ∷ ds) h = ap (λ (xs : List EventByte). a l ++ xs) (gather-received i j a ds h.1)
gather-received i j a (Received at ∷ ds) h = ap₂ ◌++◌ h.0 (gather-received i j a ds h.1)

pub append-each : {A : Type 0} (P : A → Type 0) (xs ys : List A) → AllByRecursion P xs → AllByRecursion P ys → AllByRecursion P (xs ++ ys)
append-each P [] ys h k = k
append-each P (x ∷ xs) ys h k = (h.0, append-each P xs ys h.1 k)

pub each-weaker : {A : Type 0} (P Q : A → Type 0) → ((x : A) → P x → Q x) → (xs : List A) → AllByRecursion P xs → AllByRecursion Q xs
each-weaker P Q f [] h = tt
each-weaker P Q f (x ∷ xs) h = (f x h.0, each-weaker P Q f xs h.1)

-- functions that agree on each element make one list
pub flat_map-same : (f g : EventByte → List EventByte) (xs : List EventByte) → AllByRecursion (λ x. f x ≡ g x) xs → flat_map f xs ≡ flat_map g xs
flat_map-same f g [] h = refl
flat_map-same f g (x ∷ xs) h = ap₂ ◌++◌ h.0 (flat_map-same f g xs h.1)

-- what is gathered has P where locations and what is received have
pub gather-each : (P : EventByte → Type 0) (i : At → List EventByte) (a : Location → List EventByte) → ((l : Location) → AllByRecursion P (a l)) → (ds : List Dependence) → EachReceived (λ at. AllByRecursion P (i at)) ds → AllByRecursion P (gather i a ds)
gather-each P i a k [] h = tt
gather-each P i a k (Prior l ∷ ds) h = append-each P (a l) (gather i a ds) (k l) (gather-each P i a k ds h.1)
gather-each P i a k (Received at ∷ ds) h = append-each P (i at) (gather i a ds) h.0 (gather-each P i a k ds h.1)

-- a received byte that has P has Q
pub each-received : (P Q : At → Type 0) → ((at : At) → P at → Q at) → (ds : List Dependence) → EachReceived P ds → EachReceived Q ds
each-received P Q f [] h = tt
each-received P Q f (Prior l ∷ ds) h = (tt, each-received P Q f ds h.1)
each-received P Q f (Received at ∷ ds) h = (f at h.0, each-received P Q f ds h.1)
