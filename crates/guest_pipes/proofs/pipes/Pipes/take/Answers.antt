use Rattle.std.proofs.Common.{◌≡◌, refl, Option, Some, Err, IfOk, IsTrue, not, ap, option_map}
use Rattle.std.proofs.lemmas.Result.{IfOk-weaker}
use Rattle.arn_base.specs.declared.records.Give.{Give}
use Rattle.parts_model.specs.Channel.{front}
use Rattle.parts_model.specs.Pipes.{Pipe, can_take, with_taken}
use Rattle.parts_model.specs.Tagged.{given}
use Rattle.guest_pipes.specs.declared.errors.PipeError.{PipeError}
use Rattle.guest_pipes.specs.Answers.{holds}
use Rattle.guest_pipes.proofs.Changes.{IsSound-changed, OnOk-map, at-found, changed-at, there-numbered}
use Rattle.guest_pipes.proofs.pipes.Pipes.take.Goals as goal

pub key_of-key-requires : goal.key_of-key-requires
key_of-key-requires c = there-numbered c.args.self.now c.self.inside.table.slots c.self.inside.made c.args.pipe c.self.view_is c.self.invariant c.requires.there

pub invariant_of-self : goal.invariant_of-self
invariant_of-self c =
    IsSound-changed c.self.inside.table c.self.inside.made c.key_of-key.result c.args.pipe c.index_mut.result.now _ c.index_mut.ensures.value c.key_of-key.ensures refl c.self.invariant

pub returns-clause-taken : goal.returns-clause-taken
returns-clause-taken c =
    OnOk-map c.take.result _ _ (changed-at c.args.self.now c.self.inside.table c.self.inside.made c.key_of-key.result c.args.pipe c.index_mut.result.now c.self.view_is c.index_mut.ensures.value c.key_of-key.ensures c.self.invariant (λ p. with_taken p c.args.max) c.take.new.self) c.take.ensures.taken

pub returns-clause-given : goal.returns-clause-given
returns-clause-given c =
    at-found c.args.self.now c.self.inside.table c.self.inside.made c.key_of-key.result c.args.pipe c.index_mut.result.now c.self.view_is c.index_mut.ensures.value c.key_of-key.ensures c.self.invariant
    (λ (o : Option Pipe). IfOk c.take.result (λ give. Some give ≡ option_map (λ p. given (front p.channel c.args.max)) o))
    (IfOk-weaker c.take.result _ _ (λ give is. ap (λ (g : Give). Some g) is) c.take.ensures.given)

pub returns-clause-not_ready : goal.returns-clause-not_ready
returns-clause-not_ready c =
    at-found c.args.self.now c.self.inside.table c.self.inside.made c.key_of-key.result c.args.pipe c.index_mut.result.now c.self.view_is c.index_mut.ensures.value c.key_of-key.ensures c.self.invariant
    (λ (o : Option Pipe). (c.take.result ≡ Err PipeError.NotReady → holds (λ p. IsTrue (not (can_take p))) o) × (holds (λ p. IsTrue (not (can_take p))) o → c.take.result ≡ Err PipeError.NotReady)) c.take.ensures.not_ready
