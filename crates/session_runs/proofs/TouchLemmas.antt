-- Touches: how they append, and those of slices alone.
use Rattle.std.proofs.Common.{◌≡◌, ℕ, ◌++◌, List, [], ◌∷◌, length, map, filter_map, Option, Some, None, refl, sym, ap, ◌∙◌, subst}
use Rattle.std.proofs.lemmas.List.Elements.{filter_map-append}
use Rattle.arn_base.specs.declared.records.Record.{Record}
use Rattle.arn_base.specs.declared.records.Record.TheVariants as entry
use Rattle.arn_model.specs.Run.{Input, File, Boot, Typed, Unplug, Slice}
use Rattle.log_model.specs.Records.{named}
use Rattle.history_model.specs.Unplugged.{unplugged_by, unplugged_in}
use Rattle.guest_legs.specs.Legs.{Ask, Picked, input_of}
use Rattle.guest_machine.specs.Legs.{RepliedBy}
use Rattle.guest_legs.specs.LegLaws.{all_named}
use Rattle.session_effects.specs.Effects.{Effect, committed}
use Rattle.session_runs.specs.Touches.{Answering, Touch, AtSlice, AtUnplug, TouchedBy, asks_in, named_at, unplugs_in}
use Rattle.session_runs.proofs.NamedLemmas.{all_named-append, committed-append}

-- the touches of slices
abbrev pub at_slices : List Ask → List Touch
at_slices [] = []
at_slices (ask ∷ asks) = AtSlice ask ∷ at_slices asks

pub asks-at : (asks : List Ask) → asks_in (at_slices asks) ≡ asks
asks-at [] = refl
asks-at (ask ∷ asks) = ap (λ (x : List Ask). ask ∷ x) (asks-at asks)

pub named-at : (asks : List Ask) (slices : List Picked) → named_at (at_slices asks) slices ≡ all_named asks slices
named-at asks slices = ap (λ (x : List Ask). all_named x slices) (asks-at asks)

pub at-append : (asks more : List Ask) → at_slices (asks ++ more) ≡ at_slices asks ++ at_slices more
at-append [] more = refl
at-append (ask ∷ asks) more = ap (λ (x : List Touch). AtSlice ask ∷ x) (at-append asks more)

-- none of them unplugs
pub at-unplugs : (asks : List Ask) → unplugs_in (at_slices asks) ≡ []
at-unplugs [] = refl
at-unplugs (ask ∷ asks) = at-unplugs asks

pub touched-at : {A : Type 0} (who : Answering A) (asks : List Ask) (slices : List Picked) (old new : A) → RepliedBy who.answers asks slices old new → TouchedBy who (at_slices asks) slices old new
touched-at who [] slices old new h = h
touched-at who (ask ∷ asks) [] old new h = absurd h
touched-at who (ask ∷ asks) (s ∷ slices) old new h = (h.0, h.1, touched-at who asks slices h.0 new h.2)

pub asks-append : (touches more : List Touch) → asks_in (touches ++ more) ≡ asks_in touches ++ asks_in more
asks-append [] more = refl
asks-append (AtSlice ask ∷ touches) more = ap (λ (x : List Ask). ask ∷ x) (asks-append touches more)
asks-append (AtUnplug n ∷ touches) more = asks-append touches more

pub unplugs-append : (touches more : List Touch) → unplugs_in (touches ++ more) ≡ unplugs_in touches ++ unplugs_in more
unplugs-append [] more = refl
unplugs-append (AtSlice ask ∷ touches) more = unplugs-append touches more
unplugs-append (AtUnplug n ∷ touches) more = ap (λ (x : List ℕ). n ∷ x) (unplugs-append touches more)

pub named-append : (touches more : List Touch) (slices others : List Picked) → length (asks_in touches) ≡ length slices → named_at (touches ++ more) (slices ++ others) ≡ named_at touches slices ++ named_at more others
named-append touches more slices others many =
    ap (λ (x : List Ask). all_named x (slices ++ others)) (asks-append touches more) ∙ all_named-append (asks_in touches) (asks_in more) slices others many

pub touched-append : {A : Type 0} (who : Answering A) (touches more : List Touch) (slices others : List Picked) (old between new : A) → TouchedBy who touches slices old between → TouchedBy who more others between new → TouchedBy who (touches ++ more) (slices ++ others) old new
touched-append {A} who [] more slices others old between new p q =
    subst (λ (x : List Picked). TouchedBy who more (x ++ others) old new) (sym p.0) (subst (λ (x : A). TouchedBy who more others x new) p.1 q)
touched-append who (AtUnplug n ∷ touches) more slices others old between new p q = (p.0, p.1, touched-append who touches more slices others p.0 between new p.2 q)
touched-append who (AtSlice ask ∷ touches) more [] others old between new p q = absurd p
touched-append who (AtSlice ask ∷ touches) more (s ∷ slices) others old between new p q = (p.0, p.1, touched-append who touches more slices others p.0 between new p.2 q)

-- what records unplug, behind others
pub unplugged-append : (entries more : List Record) → unplugged_in (entries ++ more) ≡ unplugged_in entries ++ unplugged_in more
unplugged-append entries more = filter_map-append unplugged_by entries more

-- what effects unplug behind others
pub unplugs-behind : (xs ys : List Effect) (ts us : List ℕ) → unplugged_in (committed xs) ≡ ts → unplugged_in (committed ys) ≡ us → unplugged_in (committed (xs ++ ys)) ≡ ts ++ us
unplugs-behind xs ys ts us p q =
    ap unplugged_in (committed-append xs ys)
    ∙ unplugged-append (committed xs) (committed ys)
    ∙ ap (λ (l : List ℕ). l ++ unplugged_in (committed ys)) p
    ∙ ap (λ (l : List ℕ). ts ++ l) q

-- the device that an input unplugs
abbrev unplugged_with : Input → Option ℕ
unplugged_with (File name bytes) = None
unplugged_with (Boot name) = None
unplugged_with (Typed bytes) = None
unplugged_with (Unplug device) = Some device
unplugged_with (Slice pid count reply) = None

-- records unplug what their inputs do
unplugged-named : (entries : List Record) → unplugged_in entries ≡ filter_map unplugged_with (named entries)
unplugged-named [] = refl
unplugged-named (entry.File name bytes ∷ entries) = unplugged-named entries
unplugged-named (entry.Boot name give ∷ entries) = unplugged-named entries
unplugged-named (entry.Typed bytes ∷ entries) = unplugged-named entries
unplugged-named (entry.Unplug device ∷ entries) = ap (λ (l : List ℕ). device ∷ l) (unplugged-named entries)
unplugged-named (entry.Slice pid ran ∷ entries) = unplugged-named entries
unplugged-named (entry.Signal pid signal cut handler ∷ entries) = unplugged-named entries
unplugged-named (entry.Call pid number result extra ∷ entries) = unplugged-named entries
unplugged-named (entry.End pid status ∷ entries) = unplugged-named entries

slices-unplug : (slices : List Picked) → filter_map unplugged_with (map input_of slices) ≡ []
slices-unplug [] = refl
slices-unplug (s ∷ slices) = slices-unplug slices

-- records that name slices alone unplug nothing
pub unplugged-slices : (entries : List Record) (slices : List Picked) → named entries ≡ map input_of slices → unplugged_in entries ≡ []
unplugged-slices entries slices is = unplugged-named entries ∙ ap (λ (x : List Input). filter_map unplugged_with x) is ∙ slices-unplug slices
