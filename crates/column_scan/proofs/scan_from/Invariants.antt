-- `scan_from` meets its contract: the bytes passed are scanned. Assumes nothing.
use mathlib.Core.Path.{◌≡◌}
use Prim.Native.Nat.{◌+◌, ◌*◌, ◌-◌, ◌^◌, ◌≤◌}
use Rattle.column_scan.specs.Scan.{up_to, start, scanned}
use Rattle.column_scan.proofs.scan_from.Given as goal

abbrev pub invariant-loop-i : goal.invariant-loop-i
invariant-loop-i l =
    record {
      left : l.s.worth + 2 * 10 ^ (l.end - l.i) ≤ 20000000;
      digits : l.s.digits ≤ l.i - l.at;
      so_far : scanned l.signed start (up_to l.bytes l.at l.end) ≡ scanned l.signed l.s (up_to l.bytes l.i l.end);
    }
