-- What a query forward rests on.
use Rattle.query_laws.specs.Forth.{FirstAreTold, ForthIsOne, ReachingIsAmong, SinksAreReached}

-- the groups that are asked are those that can have received the bytes, and their items tell which bytes that went out these reach
pub record LawsForth : Type 0 where
  pub one : ForthIsOne
  pub first : FirstAreTold
  pub sinks : SinksAreReached
  pub among : ReachingIsAmong
