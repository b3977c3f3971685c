-- `scan_from` meets its contract: the bytes passed are scanned. Assumes nothing.
use mathlib.Core.Path.{◌≡◌, refl, sym, ap, subst, ◌∙◌}
use mathlib.Core.List.{[]}
use Prim.Native.Nat.{ℕ, suc, ◌+◌, ◌*◌, ◌-◌, ◌^◌, ◌≤◌}
use native.Mathlib.Omega.{arith}
use mathlib.Core.Bool.{◌&&◌}
use lib.Dec.{eqb}
use lib.ListN.{length, get_or}
use Rattle.file_laws.specs.Places.{place_value_at}
use Rattle.column_scan.specs.declared.Scan.{Scan}
use Rattle.rules.specs.File.{is_digit}
use Rattle.column_scan.specs.Scan.{up_to, byte_worth, stepped, scanned}
use Rattle.column_scan.proofs.Bytes.{none, next, length_up_to, worth_small, place_small, left_most, left_some}
use Rattle.column_scan.proofs.Bytes.{one_most, worth_grows}
use Rattle.column_scan.proofs.scan_from.Goals as goal

pub loop-i-init : goal.loop-i-init
loop-i-init c =
    let s = c.args in
    record { left = omega (arith, left_most (s.end - s.at) (omega arith)); digits = omega arith; so_far = refl }

pub step-s-requires : goal.step-s-requires
step-s-requires c =
    let l = c.loop-i in
    let left = c.args.end - 1 - l.i in (
      left_some l.s.worth (c.args.end - l.i) l.invariant.left,
      omega arith,
      rw c.place_value-place.ensures (place_small left (omega arith)),
    )

pub loop-i-preserved : goal.loop-i-preserved
unfolding scanned stepped
loop-i-preserved c =
    let l = c.loop-i in
    let s = c.args in
    let bytes = s.bytes.now in
    let b = get_or bytes l.i 0 in
    let m = s.signed && eqb b 45 in
    let left = s.end - 1 - l.i in
    let k : s.end - l.i ≡ suc left = omega arith in
    let fewer : s.end - (l.i + 1) ≡ left = omega arith in
    let place = c.place_value-place in
    let behind : length (up_to bytes (l.i + 1) s.end) ≡ left =
    length_up_to bytes (l.i + 1) s.end (omega arith) (omega arith) ∙ fewer in
    let stepped_is : c.step-s.result ≡ stepped s.signed (place_value_at left) l.s b =
    c.step-s.ensures ∙ ap (λ (p : ℕ). stepped s.signed p l.s b) place.ensures in
    let before : l.s.worth + 2 * 10 ^ suc left ≤ 20000000 =
    subst (λ (r : ℕ). l.s.worth + 2 * 10 ^ r ≤ 20000000) k l.invariant.left in
    let grown = worth_grows l.s.worth (byte_worth m b) left (omega arith) before (worth_small m b) in
    let counted = ap (λ (x : Scan). x.digits) stepped_is in
    let worth = ap (λ (x : Scan). x.worth) stepped_is in
    record {
      left = rw (fewer, worth) grown;
      digits = rw counted (omega (arith, one_most (is_digit b), l.invariant.digits));
      so_far = l.invariant.so_far
          ∙ ap (scanned s.signed l.s) (next bytes l.i s.end (omega arith) (omega arith))
          ∙ ap
          (λ (n : ℕ).
          scanned s.signed (stepped s.signed (place_value_at n) l.s b) (up_to bytes (l.i + 1) s.end))
          behind
          ∙ ap (λ (x : Scan). scanned s.signed x (up_to bytes (l.i + 1) s.end)) (sym stepped_is);
    }

pub returns : goal.returns
unfolding scanned
returns c =
    let l = c.loop-i in
    let s = c.args in
    let e : l.i ≡ s.end = omega arith in
    let z : up_to s.bytes.now l.i s.end ≡ [] = rw e (none s.bytes.now s.end) in record {
      value = sym (l.invariant.so_far ∙ ap (scanned s.signed l.s) z);
      worth_bound = (left_some l.s.worth (s.end - l.i) l.invariant.left, omega (arith, l.invariant.digits));
    }
