-- The places before i are filled.
use Rattle.std.proofs.Common.{◌≡◌, length, map, take}
use Rattle.keys.specs.Held.{pair_of}
use Rattle.keys.proofs.Keys.fill.Given as goal

abbrev pub invariant-loop-i : goal.invariant-loop-i
invariant-loop-i l = record {
  long : length l.pairs ≡ 64;
  filled : take l.i l.pairs ≡ map pair_of (take l.i l.self-inside.places);
}
