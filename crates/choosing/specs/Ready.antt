-- A record whose held pairs are in order, ready to meet a block pair. Definitions only. Assumes nothing.
use Rattle.std.specs.Prelude.{◌+◌, ◌≤◌, ◌<◌, ◌≡◌, true, length}
use Rattle.lists.specs.Words.{Ordered}
use Rattle.rules.specs.declared.Session.{Session}
use Rattle.rules.specs.Tables.{ahead}
use Rattle.rules.specs.Session.{places, held_pairs}
use Rattle.rules.specs.Calls.{is_card}
use Rattle.session_laws.specs.Record.{QueryFits}

pub record Ready (s : Session) : Type 0 where
  pub query : QueryFits s.query
  pub card : is_card s.rows.card ≡ true
  pub room : s.out + s.held ≤ s.query.k
  pub wanted : s.out < s.query.k
  pub count : length (held_pairs s) ≡ s.held
  pub zeros : s.pairs ≡ places (held_pairs s)
  pub order : Ordered ahead (held_pairs s)
