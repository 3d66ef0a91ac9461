-- What an engine keeps between queries.
use Rattle.std.specs.Prelude.{◌≡◌, ℕ, ◌++◌, List}
use Rattle.arn_base.specs.declared.records.Record.{Record}
use Rattle.followed_groups.specs.Relations.{AreOf, KeepsNoMore, KeepsNothing, room}
use Rattle.query_engine.specs.declared.engine.Answer.{Answer}
use Rattle.query_engine.specs.declared.engine.Engine.{Engine}

-- the records begin with those of its queries so far: each relation that it keeps is of some with which they begin
abbrev pub HasSeen : List Record → Engine → Type 0
HasSeen entries engine = AreOf entries engine.kept

-- it keeps no relation
abbrev pub KeepsNone : Engine → Type 0
KeepsNone engine = KeepsNothing engine.kept

-- each relation that it keeps it kept before
abbrev pub AddsNone : Engine → Engine → Type 0
AddsNone old new = KeepsNoMore old.kept new.kept

-- how many it may keep
abbrev pub keep_of : Engine → ℕ
keep_of engine = room engine.kept

-- all groups that were asked were replayed
abbrev pub ReplaysAll : Answer → Type 0
ReplaysAll answer = answer.replayed ≡ answer.groups

-- more records may come
abbrev pub SeenStays : Type 0
SeenStays = (engine : Engine) (before more : List Record) → HasSeen before engine → HasSeen (before ++ more) engine
