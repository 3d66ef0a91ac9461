-- Records that `==` compares: it says whether they are the same.
use Rattle.std.proofs.Common.{◌≡◌, ℕ, Bool, List, Option, None, Some, nat_eq, refl, ap, ◌∙◌}
use Rattle.std.specs.Bool.{Decides}
use Rattle.std.specs.Option.{option_eq}
use Rattle.std.specs.Cmp.{booleans_Decides}
use Rattle.std.specs.Cmp.Lexicographic.{pointwise}
use Rattle.std.proofs.lemmas.Bool.Decides.{Decides-eqb, Decides-and, Decides-like}
use Rattle.std.proofs.lemmas.Slice.Eq.{slice_eq-Decides}
use Rattle.arn_base.specs.declared.machine.Block.{Block}
use Rattle.arn_base.specs.declared.machine.Cpu.{Cpu}
use Rattle.arn_base.specs.declared.records.Give.{Give}
use Rattle.arn_base.specs.declared.records.Start.{Start}
use Rattle.arn_base.specs.declared.records.Extra.{Extra}
use Rattle.arn_base.specs.declared.records.Extra.TheVariants as extra
use Rattle.arn_base.specs.declared.records.Origin.{Origin}
use Rattle.arn_base.specs.declared.records.Record.{Record}
use Rattle.arn_base.specs.declared.records.Record.TheVariants as entry
use Rattle.arn_base.specs.contracts.records.RecordPartialEq.TheImpl as record_eq
use Rattle.arn_base.specs.contracts.records.ExtraPartialEq.TheImpl as extra_eq
use Rattle.arn_base.specs.contracts.records.GivePartialEq.TheImpl as give_eq
use Rattle.arn_base.specs.contracts.records.StartPartialEq.TheImpl as start_eq
use Rattle.arn_base.specs.contracts.machine.BlockPartialEq.TheImpl as block_eq
use Rattle.arn_base.specs.contracts.machine.CpuPartialEq.TheImpl as cpu_eq
use Rattle.arn_base.specs.contracts.records.OriginPartialEq.TheImpl as origin_eq

bytes-Decides : (a b : List ℕ) → Decides (pointwise nat_eq a b) (a ≡ b)
bytes-Decides a b = slice_eq-Decides Decides-eqb a b (pointwise nat_eq a b) refl

-- what may be absent
option-Decides : {A : Type 0} {E : A → A → Bool} → ((a b : A) → Decides (E a b) (a ≡ b)) → (a b : Option A) → Decides (option_eq E a b) (a ≡ b)
option-Decides each None None = (λ yes. refl, λ same. refl)
option-Decides each None (Some b) = (λ yes. cc, λ same. cc)
option-Decides each (Some a) None = (λ yes. cc, λ same. cc)
option-Decides each (Some a) (Some b) = Decides-like _ (λ same. cc) (λ same. cc) (each a b)

-- the fields decide
origin-same : (a b : Origin) → a.event ≡ b.event → a.at ≡ b.at → a.len ≡ b.len → a ≡ b
origin-same a b event at len =
    ap (λ (n : ℕ). record a { event = n }) event
    ∙ ap (λ (n : ℕ). record b { at = n; len = a.len }) at
    ∙ ap (λ (n : ℕ). record b { len = n }) len

give-same : (a b : Give) → a.bytes ≡ b.bytes → a.origins ≡ b.origins → a ≡ b
give-same a b bytes origins =
    ap (λ (xs : List ℕ). record a { bytes = xs }) bytes ∙ ap (λ (os : List Origin). record b { origins = os }) origins

cpu-same : (a b : Cpu) → a.x ≡ b.x → a.pc ≡ b.pc → a ≡ b
cpu-same a b x pc = ap (λ (xs : List ℕ). record a { x = xs }) x ∙ ap (λ (n : ℕ). record b { pc = n }) pc

block-same : (a b : Block) → a.number ≡ b.number → a.bytes ≡ b.bytes → a ≡ b
block-same a b number bytes = ap (λ (n : ℕ). record a { number = n }) number ∙ ap (λ (xs : List ℕ). record b { bytes = xs }) bytes

start-same : (a b : Start) → a.cpu ≡ b.cpu → a.slot ≡ b.slot → a.blocks ≡ b.blocks → a ≡ b
start-same a b cpu slot blocks =
    ap (λ (c : Cpu). record a { cpu = c }) cpu
    ∙ ap (λ (s : Option Cpu). record b { slot = s; blocks = a.blocks }) slot
    ∙ ap (λ (bs : List Block). record b { blocks = bs }) blocks

cpu-Decides : (a b : Cpu) → Decides ((cpu_eq.ghosts).eq a b) (a ≡ b)
cpu-Decides a b =
    Decides-like _ (λ (x, pc). cpu-same a b x pc) (λ same. (cc, cc))
    (Decides-and _ _ (bytes-Decides a.x b.x) (Decides-eqb a.pc b.pc))

block-Decides : (a b : Block) → Decides ((block_eq.ghosts).eq a b) (a ≡ b)
block-Decides a b =
    Decides-like _ (λ (number, bytes). block-same a b number bytes) (λ same. (cc, cc))
    (Decides-and _ _ (Decides-eqb a.number b.number) (bytes-Decides a.bytes b.bytes))

start-Decides : (a b : Start) → Decides ((start_eq.ghosts).eq a b) (a ≡ b)
start-Decides a b =
    Decides-like _ (λ (cpu, rest). start-same a b cpu rest.0 rest.1) (λ same. (cc, (cc, cc)))
    (Decides-and _ _ (cpu-Decides a.cpu b.cpu)
    (Decides-and _ _ (option-Decides cpu-Decides a.slot b.slot) (slice_eq-Decides block-Decides a.blocks b.blocks _ refl)))

origin-Decides : (a b : Origin) → Decides ((origin_eq.ghosts).eq a b) (a ≡ b)
origin-Decides a b =
    Decides-like _ (λ (event, rest). origin-same a b event rest.0 rest.1) (λ same. (cc, (cc, cc)))
    (Decides-and _ _ (Decides-eqb a.event b.event) (Decides-and _ _ (Decides-eqb a.at b.at) (Decides-eqb a.len b.len)))

give-Decides : (a b : Give) → Decides ((give_eq.ghosts).eq a b) (a ≡ b)
give-Decides a b =
    Decides-like _ (λ (bytes, origins). give-same a b bytes origins) (λ same. (cc, cc))
    (Decides-and _ _ (bytes-Decides a.bytes b.bytes) (slice_eq-Decides origin-Decides a.origins b.origins _ refl))

extra-Decides : (a b : Extra) → Decides ((extra_eq.ghosts).eq a b) (a ≡ b)
extra-Decides extra.Nothing extra.Nothing = (λ yes. refl, λ same. refl)
extra-Decides (extra.Give a) (extra.Give b) = Decides-like _ (λ given. cc) (λ same. cc) (give-Decides a b)
extra-Decides (extra.Start a) (extra.Start b) = Decides-like _ (λ start. cc) (λ same. cc) (start-Decides a b)
extra-Decides (extra.Put file at bytes) (extra.Put file' at' bytes') =
    Decides-like _ (λ (files, rest). cc) (λ same. (cc, (cc, cc)))
    (Decides-and _ _ (Decides-eqb file file') (Decides-and _ _ (Decides-eqb at at') (bytes-Decides bytes bytes')))
extra-Decides (extra.Console a) (extra.Console b) = Decides-like _ (λ bytes. cc) (λ same. cc) (bytes-Decides a b)
extra-Decides (extra.Reply device bytes) (extra.Reply device' bytes') =
    Decides-like _ (λ (devices, all). cc) (λ same. (cc, cc)) (Decides-and _ _ (Decides-eqb device device') (bytes-Decides bytes bytes'))
extra-Decides extra.Fault extra.Fault = (λ yes. refl, λ same. refl)
extra-Decides extra.Absent extra.Absent = (λ yes. refl, λ same. refl)
extra-Decides (extra.Name file path) (extra.Name file' path') =
    Decides-like _ (λ (files, all). cc) (λ same. (cc, cc)) (Decides-and _ _ (Decides-eqb file file') (bytes-Decides path path'))
extra-Decides (extra.Sent device bytes) (extra.Sent device' bytes') =
    Decides-like _ (λ (devices, all). cc) (λ same. (cc, cc)) (Decides-and _ _ (Decides-eqb device device') (bytes-Decides bytes bytes'))
extra-Decides _ _ = (λ yes. cc, λ same. cc)

pub record-Decides : (a b : Record) → Decides ((record_eq.ghosts).eq a b) (a ≡ b)
record-Decides (entry.File name bytes) (entry.File name' bytes') =
    Decides-like _ (λ (names, all). cc) (λ same. (cc, cc)) (Decides-and _ _ (bytes-Decides name name') (bytes-Decides bytes bytes'))
record-Decides (entry.Boot name give) (entry.Boot name' give') =
    Decides-like _ (λ (names, all). cc) (λ same. (cc, cc)) (Decides-and _ _ (bytes-Decides name name') (give-Decides give give'))
record-Decides (entry.Typed bytes) (entry.Typed bytes') = Decides-like _ (λ all. cc) (λ same. cc) (bytes-Decides bytes bytes')
record-Decides (entry.Unplug device) (entry.Unplug device') = Decides-like _ (λ all. cc) (λ same. cc) (Decides-eqb device device')
record-Decides (entry.Slice pid ran) (entry.Slice pid' ran') =
    Decides-like _ (λ (pids, all). cc) (λ same. (cc, cc)) (Decides-and _ _ (Decides-eqb pid pid') (Decides-eqb ran ran'))
record-Decides (entry.Signal pid signal cut handler) (entry.Signal pid' signal' cut' handler') =
    Decides-like _ (λ (pids, rest). cc) (λ same. (cc, (cc, (cc, cc))))
    (Decides-and _ _ (Decides-eqb pid pid') (Decides-and _ _ (Decides-eqb signal signal') (Decides-and _ _ (booleans_Decides cut cut') (Decides-eqb handler handler'))))
record-Decides (entry.Call pid number result did) (entry.Call pid' number' result' did') =
    Decides-like _ (λ (pids, rest). cc) (λ same. (cc, (cc, (cc, cc))))
    (Decides-and _ _ (Decides-eqb pid pid') (Decides-and _ _ (Decides-eqb number number') (Decides-and _ _ (Decides-eqb result result') (extra-Decides did did'))))
record-Decides (entry.End pid status) (entry.End pid' status') =
    Decides-like _ (λ (pids, all). cc) (λ same. (cc, cc)) (Decides-and _ _ (Decides-eqb pid pid') (Decides-eqb status status'))
record-Decides _ _ = (λ yes. cc, λ same. cc)
