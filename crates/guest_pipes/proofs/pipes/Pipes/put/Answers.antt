use Rattle.std.proofs.Common.{◌≡◌, refl, ℕ, Option, Some, Err, IfOk, IsTrue, length, min, not, ap, option_map}
use Rattle.std.proofs.lemmas.Result.{IfOk-weaker}
use Rattle.parts_model.specs.Pipes.{Pipe, room, with_put}
use Rattle.guest_pipes.specs.declared.errors.PipeError.{PipeError}
use Rattle.guest_pipes.specs.Answers.{has_to_wait, holds}
use Rattle.guest_pipes.proofs.Changes.{IsSound-changed, OnOk-map, at-found, changed-at, there-numbered}
use Rattle.guest_pipes.proofs.pipes.Pipes.put.Goals as goal

pub key_of-key-requires : goal.key_of-key-requires
key_of-key-requires c = there-numbered c.args.self.now c.self.inside.table.slots c.self.inside.made c.args.pipe c.self.view_is c.self.invariant c.requires.there

pub invariant_of-self : goal.invariant_of-self
invariant_of-self c =
    IsSound-changed c.self.inside.table c.self.inside.made c.key_of-key.result c.args.pipe c.index_mut.result.now _ c.index_mut.ensures.value c.key_of-key.ensures refl c.self.invariant

pub returns-clause-put : goal.returns-clause-put
returns-clause-put c =
    OnOk-map c.put.result _ _ (changed-at c.args.self.now c.self.inside.table c.self.inside.made c.key_of-key.result c.args.pipe c.index_mut.result.now c.self.view_is c.index_mut.ensures.value c.key_of-key.ensures c.self.invariant (λ p. with_put p c.args.bytes.now c.args.event) c.put.new.self) c.put.ensures.put

pub returns-clause-count : goal.returns-clause-count
returns-clause-count c =
    at-found c.args.self.now c.self.inside.table c.self.inside.made c.key_of-key.result c.args.pipe c.index_mut.result.now c.self.view_is c.index_mut.ensures.value c.key_of-key.ensures c.self.invariant
    (λ (o : Option Pipe). IfOk c.put.result (λ count. Some count ≡ option_map (λ p. min (length c.args.bytes.now) (room p)) o))
    (IfOk-weaker c.put.result _ _ (λ count is. ap (λ (k : ℕ). Some k) is) c.put.ensures.count)

pub returns-clause-broken : goal.returns-clause-broken
returns-clause-broken c =
    at-found c.args.self.now c.self.inside.table c.self.inside.made c.key_of-key.result c.args.pipe c.index_mut.result.now c.self.view_is c.index_mut.ensures.value c.key_of-key.ensures c.self.invariant
    (λ (o : Option Pipe). (c.put.result ≡ Err PipeError.Broken → holds (λ p. IsTrue (not p.has_reader)) o) × (holds (λ p. IsTrue (not p.has_reader)) o → c.put.result ≡ Err PipeError.Broken)) c.put.ensures.broken

pub returns-clause-not_ready : goal.returns-clause-not_ready
returns-clause-not_ready c =
    at-found c.args.self.now c.self.inside.table c.self.inside.made c.key_of-key.result c.args.pipe c.index_mut.result.now c.self.view_is c.index_mut.ensures.value c.key_of-key.ensures c.self.invariant
    (λ (o : Option Pipe). (c.put.result ≡ Err PipeError.NotReady → holds (λ p. IsTrue (has_to_wait c.args.bytes.now p)) o) × (holds (λ p. IsTrue (has_to_wait c.args.bytes.now p)) o → c.put.result ≡ Err PipeError.NotReady)) c.put.ensures.not_ready
