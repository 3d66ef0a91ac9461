-- What a query rests on.
use Rattle.query_laws.specs.Fitting.{ItemsFit, ReachingIsOfBytes}
use Rattle.query_laws.specs.Laws.{GroupsAreConnected, GroupsAreOne}
use Rattle.query_laws.specs.Names.{NamedAreWritten, WrittenIsOfBytes}
use Rattle.query_laws.specs.States.{HeldIsOfBytes, HeldItemsAreThere}

-- the groups that are asked are those that are connected, and their items can be joined and tell all
pub record Laws : Type 0 where
  pub connected : GroupsAreConnected
  pub one : GroupsAreOne
  pub fit : ItemsFit
  pub reaching : ReachingIsOfBytes

-- the items of bytes that a process holds are bytes that events have, and what they lead to is told by connected groups
pub record LawsOfStates : Type 0 where
  pub there : HeldItemsAreThere
  pub reaching : HeldIsOfBytes

-- bytes of files were written by bytes that events have, and what reaches these is told by connected groups
pub record LawsOfNames : Type 0 where
  pub written : NamedAreWritten
  pub reaching : WrittenIsOfBytes
