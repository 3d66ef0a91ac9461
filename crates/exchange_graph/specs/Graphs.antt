-- A graph tells which groups are connected in a history.
use Rattle.std.specs.Prelude.{◌≡◌, ℕ, ◌↔◌, List, Contains}
use Rattle.arn_base.specs.declared.records.Record.{Record}
use Rattle.history_model.specs.Exchanges.{Edge}
use Rattle.exchange_graph.specs.declared.links.Link.{Link}
use Rattle.exchange_graph.specs.Links.{ends_of, begins_of}
use Rattle.exchange_graph.specs.Rows.{row_of}

-- For each group those from which something came to it, and those to which something went from it.
pub record Connections : Type 0 where
  pub sources : List (List ℕ)
  pub sinks : List (List ℕ)

-- the connections of these links
pub record AreLaid (c : Connections) (links : List Link) : Type 0 where
  pub sources : (g : ℕ) → row_of c.sources g ≡ begins_of links g
  pub sinks : (h : ℕ) → row_of c.sinks h ≡ ends_of links h

-- the connections are the edges of a history
pub record Tells (c : Connections) (entries : List Record) : Type 0 where
  pub sources : (h g : ℕ) → Contains (row_of c.sources g) h ↔ Edge entries h g
  pub sinks : (h g : ℕ) → Contains (row_of c.sinks h) g ↔ Edge entries h g
