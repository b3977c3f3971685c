-- `refuse` meets its contract. Assumes nothing.
use Rattle.std.proofs.Common.{ℕ, sym, ap, ◌∙◌, arith}
use Rattle.rules.specs.Query.{refusal_line}
use Rattle.rules.specs.Numbers.{number_of}
use Rattle.other_lines.specs.Lines.{refusal_length_lem}
use Rattle.printing.specs.Put.{put_at}
use Rattle.program.proofs.refuse.Goals as goal

pub returns : goal.returns
returns c =
    record {
      count = sym (refusal_length_lem (number_of c.args.refusal));
      short = omega arith;
      front =
          c.put_refusal.ensures ∙ ap (λ (n : ℕ). put_at 0 (refusal_line n) c.args.out.now) c.from.ensures;
    }
