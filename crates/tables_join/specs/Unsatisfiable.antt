-- A query that nothing can meet: every read of it answers settled, every take finished, nothing is read and the list is
-- empty. (That 0 and 0 is sure of it stands in Sure.antt.) Assumes legal tables for the whole query alone.
use Rattle.std.specs.Prelude.{◌≡◌, true, [], eqb}
use Rattle.std.proofs.Math.Path.{ap}
use Rattle.std.proofs.Common.{◌∙◌}
use Prim.Native.Nat.{suc, ◌+◌, ◌<◌}
use native.Mathlib.Omega.{arith}
use Rattle.std.proofs.Math.ListN.{length}
use Rattle.std.proofs.lemmas.List.{length-replicate}
use Rattle.lists.specs.Bools.{fails, or_true}
use Rattle.rules.specs.declared.Answer.TheVariants.{Settled, Finished}
use Rattle.rules.specs.declared.Query.{Query}
use Rattle.rules.specs.declared.Session.{Session}
use Rattle.rules.specs.Tables.{Table, row_count, unsatisfiable, legal}
use Rattle.rules.specs.Session.{no_pair, place_count, places, two_tables, opened, nothing_qualifies, settled_by}
use Rattle.rules.specs.Take.{gives_pair, finished}
use Rattle.rules.specs.Calls.{query_code, call_code, step, read_call, take_call}
use Rattle.rules.specs.Query.{take_until_finished, settled_session, list}
use Rattle.session_laws.specs.Record.{first_fits}
use Rattle.session_laws.specs.Calls.{OneCard, legal_settled, call_out, read_settled, take_finishes}
use Rattle.session_laws.specs.Sound.{sound_open}
use Rattle.session_laws.specs.Take.{gives_some}
use Rattle.tables_join.specs.Reached.{open_reached}
use Rattle.tables_join.specs.WholeList.{until_settled, until_finished, call_passes}

-- every record of it that is not refused
module _ (f t : Table) (s : Session) (a : call_code f t s ≡ 0) (u : nothing_qualifies s ≡ true) where
  pub unsatisfiable_settles : read_call f t s ≡ step Settled s
  unfolding settled_by
  unsatisfiable_settles = read_settled f t s a (rw u)

  -- with rows read it would be refused, so that it holds no pair
  pub unsatisfiable_finishes : length s.pairs ≡ place_count → take_call f t s ≡ step Finished s
  unfolding finished
  unsatisfiable_finishes places =
      let fits = (call_out f t s a).lent.fits in
      take_finishes f t s a
      (fails (gives_pair f t s)
      (λ e.
      let some : 0 < length s.pairs = omega (arith, places) in
      let row = (first_fits s fits some (omega (arith, gives_some f t s e))).field_row in
      absurd (omega (arith, (fits.depths u).0))))
      (rw u (or_true (eqb s.out s.query.k)))

-- a whole query of it
module _ (q : Query) (accepted : query_code q ≡ 0) (f t : Table) (cards : OneCard f t) (g : legal f ≡ true)
    (h : legal t ≡ true) (u : unsatisfiable q f.coordinates ≡ true) where
  abbrev begun : Session
  begun = opened q (two_tables f t)

  passes : call_code f t begun ≡ 0
  passes = call_passes q f t g h accepted (open_reached q f t accepted cards) (sound_open q (two_tables f t))

  pub settled_at_opening : settled_session q f t ≡ begun
  unfolding opened
  settled_at_opening =
      legal_settled q f t accepted cards g h
      ∙ until_settled (row_count f + row_count t) f t begun (unsatisfiable_settles f t begun passes u)

  pub none_listed : list q f t ≡ []
  unfolding list opened places
  none_listed =
      let e : q.k + 1 ≡ suc q.k = omega arith in
      ap (take_until_finished (q.k + 1) f t) settled_at_opening
      ∙ ap (λ n. take_until_finished n f t begun) e
      ∙ until_finished q.k f t begun (unsatisfiable_finishes f t begun passes u (length-replicate place_count no_pair))
