-- `put` meets its contract, by its two ways out. Assumes nothing.
use Rattle.std.proofs.Common.{arith}
use Rattle.keys.proofs.Places as P
use Rattle.keys.proofs.Keys.put.Goals as goal

pub returns-then-i-room : goal.returns-then-i-room
returns-then-i-room c =
    let s = c.self.inside in
    P.placed c.args.room c.args.p _ c.requires.0 c.key-k.result c.find-i.result s.held s.places c.key-k.ensures
    c.self.view_is c.find-i.ensures.0 (omega arith) c.if-i-room.true c.shift.new.a _ c.min-kept.ensures c.shift.ensures

pub returns-else-i-room : goal.returns-else-i-room
returns-else-i-room c =
    let s = c.self.inside in
    P.unchanged c.args.room c.args.p _ c.requires.0 c.key-k.result c.find-i.result s.held s.places c.key-k.ensures
    c.self.view_is c.find-i.ensures.0 c.requires.1 c.if-i-room.false
