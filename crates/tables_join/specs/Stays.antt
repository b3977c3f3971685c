-- What 5 accepts it accepts for good: a read or a take of a record that fits gives back one that fits, whoever made it,
-- and over whatever slices. Assumes nothing.
use Rattle.std.specs.Prelude.{◌≡◌, refl, Bool, true, false, ◌≤◌, length}
use Rattle.std.proofs.Common.{sym, subst, ◌∙◌, arith, length-take}
use Rattle.std.proofs.Math.Path.{ap}
use Rattle.std.proofs.Math.Bool.{cond}
use Rattle.lists.specs.Lists.{ranked}
use Rattle.lists.specs.Parts.{every_at, every_of}
use Rattle.lists.specs.Members.{ranked_rest}
use Rattle.rules.specs.declared.Session.{Session}
use Rattle.rules.specs.Tables.{Table, row_count, ahead, legal}
use Rattle.rules.specs.Session.{held_pairs, settled}
use Rattle.rules.specs.Read.{field_next, block_count, new_depth, read_to, read_table_by, read_block}
use Rattle.rules.specs.Take.{first_held, moved_out}
use Rattle.rules.specs.Calls.{pair_fits, record_fits, call_code, new_block_code, read_call, take_call}
use Rattle.rules.specs.Query.{was_read, was_given}
use Rattle.session_laws.specs.Record.{pair_out, pair_in_lem, RecordFits, record_out, record_in}
use Rattle.session_laws.specs.Calls.{Accepted, call_out, NewRowsFit, new_block_out, was_read_out, read_keeps}
use Rattle.session_laws.specs.Calls.{was_given_out, take_keeps, call_accepted, new_block_accepted}
use Rattle.session_laws.specs.Cards.{read_tables, take_tables}
use Rattle.session_laws.specs.Read.{new_within, met_all, met_all_keeps}
use Rattle.session_laws.specs.Sound.{Sound, held_from, same_held, sound_read, sound_take}
use Rattle.session_laws.specs.Take.{gives_some, held_first, moved_every}
use Rattle.tables_join.specs.Pairs.{pair_rank}
use Rattle.tables_join.specs.Unskipped.{read_unskipping}

-- all but what it holds
fits_sound : (s : Session) → RecordFits s → Sound s
fits_sound s h = record {
  field_whole = h.field.whole;
  trim_whole = h.trim.whole;
  mark = h.mark;
  cleared = h.zeros;
  joined = h.joined;
  depths = h.depths;
}

-- it has as many pairs as it says
fits_stored : (s : Session) → length s.pairs ≡ 64 → RecordFits s → length (held_pairs s) ≡ s.held
fits_stored s places h = length-take s.held s.pairs ∙ omega (arith, h.room, h.query.k)

-- ---- A read

module _ (f t : Table) (s : Session) (places : length s.pairs ≡ 64) (a : Accepted f t s)
    (u : settled f t s ≡ false) (new : NewRowsFit (field_next f t s) f t s) where
  abbrev field : Bool
  field = field_next f t s

  abbrev fits : RecordFits s
  fits = a.lent.fits

  -- the record once the new block has met all others
  abbrev met : Session
  met = met_all field f t s

  -- with its other numbers as they were
  abbrev after : Session
  after = read_to field (new_depth field s) (held_from s met)

  after_is : read_block f t s ≡ after
  unfolding read_table_by
  after_is = ap (read_to field (new_depth field s)) (same_held s met (met_all_keeps field f t s))

  after_sound : Sound after
  after_sound =
      subst Sound after_is
      (sound_read f t s (fits_sound s fits) fits.query.block.0 fits.field.within fits.trim.within u)

  after_fits : RecordFits after
  unfolding read_to
  after_fits =
      let other = cond field s.depth.trim.0 s.depth.field.0 in
      let held = read_unskipping field f t s a new places (block_count s.query.block other) in
      let kept = met_all_keeps field f t s in
      let down = new_within s fits.field.within fits.trim.within field in
      record {
        query = fits.query;
        field = record { few = fits.field.few; within = down.0; whole = after_sound.field_whole };
        trim = record { few = fits.trim.few; within = down.1; whole = after_sound.trim_whole };
        room = omega (arith, held.room, kept.out, ap (λ q. q.k) kept.query);
        pairs =
            every_of (pair_fits after) (held_pairs met)
            (λ p m.
            let h = held.each p m in
            pair_in_lem after p
            (record { field_row = h.field_row; trim_row = h.trim_row; low_sum_lem = h.low_sum_lem }));
        rank = held.in_rank;
        mark = after_sound.mark;
        zeros = after_sound.cleared;
        joined = after_sound.joined;
        card = fits.card;
        depths = after_sound.depths;
      }

  read_fits : record_fits (read_block f t s) ≡ true
  read_fits = subst (λ r. record_fits r ≡ true) (sym after_is) (record_in after after_fits)

-- ---- A take

take_fits : (s : Session) → length s.pairs ≡ 64 → RecordFits s → 1 ≤ s.held → record_fits (moved_out s) ≡ true
unfolding moved_out
take_fits s places h some =
    let stored = fits_stored s places h in
    let sound = sound_take s (fits_sound s h) stored some in
    let first = held_first s stored some in
    record_in (moved_out s)
    (record {
      query = h.query;
      field = h.field;
      trim = h.trim;
      room = omega (arith, h.room);
      pairs =
          every_of (pair_fits (moved_out s)) (held_pairs (moved_out s))
          (λ p m.
          let k = pair_out s p (every_at (pair_fits s) p (moved_every s stored some (pair_fits s) h.pairs) m) in
          pair_in_lem (moved_out s) p
          (record { field_row = k.field_row; trim_row = k.trim_row; low_sum_lem = k.low_sum_lem }));
      rank =
          subst (λ l. ranked ahead l ≡ true) (sym first.2)
          (ranked_rest ahead pair_rank.order (first_held s) first.0
          (subst (λ l. ranked ahead l ≡ true) first.1 h.rank));
      mark = sound.mark;
      zeros = sound.cleared;
      joined = sound.joined;
      card = h.card;
      depths = sound.depths;
    })

-- ---- Calls

module _ (f t : Table) (s : Session) (places : length s.pairs ≡ 64) (h : record_fits s ≡ true) where
  pub read_stays : record_fits (read_call f t s).session ≡ true
  read_stays = go (was_read (read_call f t s).answer) refl
    where
      go : (b : Bool) → was_read (read_call f t s).answer ≡ b → record_fits (read_call f t s).session ≡ true
      go true e =
          let r = was_read_out f t s e in
          subst (λ x. record_fits x.session ≡ true) (sym r.after)
          (read_fits f t s places (call_out f t s r.accepted) r.unsettled (new_block_out f t s r.new_block))
      go false e = subst (λ r. record_fits r ≡ true) (sym (read_keeps f t s e)) h

  pub take_stays : record_fits (take_call f t s).session ≡ true
  take_stays = go (was_given (take_call f t s).answer) refl
    where
      go : (b : Bool) → was_given (take_call f t s).answer ≡ b → record_fits (take_call f t s).session ≡ true
      go true e =
          let r = was_given_out f t s e in
          subst (λ x. record_fits x.session ≡ true) (sym r.after)
          (take_fits s places (record_out s h) (gives_some f t s r.gives))
      go false e = subst (λ r. record_fits r ≡ true) (sym (take_keeps f t s e)) h

-- ---- Over legal tables: once a call was not refused, none is

module _ (f t : Table) (g : legal f ≡ true) (h : legal t ≡ true) where
  -- a record that fits, of as many rows, is refused by nothing
  passes : (s r : Session) → call_code f t s ≡ 0 → r.rows ≡ s.rows → record_fits r ≡ true → call_code f t r ≡ 0
  passes s r e same fits =
      let lent = (call_out f t s e).lent in
      let own = record_out r fits in
      let m : r.rows.field.0 ≡ row_count f = ap (λ x. x.field.0) same ∙ sym lent.field.count in
      let n : r.rows.trim.0 ≡ row_count t = ap (λ x. x.trim.0) same ∙ sym lent.trim.count in
      call_accepted f t r g h m n (omega (arith, own.field.within)) (omega (arith, own.trim.within)) fits

  module _ (s : Session) (places : length s.pairs ≡ 64) (e : call_code f t s ≡ 0) where
    abbrev own : record_fits s ≡ true
    own = record_in s (call_out f t s e).lent.fits

    pub read_passes : call_code f t (read_call f t s).session ≡ 0
    read_passes = passes s (read_call f t s).session e (read_tables f t s) (read_stays f t s places own)

    pub take_passes : call_code f t (take_call f t s).session ≡ 0
    take_passes = passes s (take_call f t s).session e (take_tables f t s) (take_stays f t s places own)

    -- nor is a read by its new block
    pub block_passes : new_block_code f t s ≡ 0
    block_passes =
        let lent = (call_out f t s e).lent in
        new_block_accepted f t s g h (sym lent.field.count) (sym lent.trim.count)
        (omega (arith, lent.field.count, lent.fits.field.within))
        (omega (arith, lent.trim.count, lent.fits.trim.within))
