use Rattle.std.proofs.Common.{rules}
use Rattle.blake3.specs.Words.{word}
use Rattle.blake3.specs.Rounds.{places}
use Rattle.blake3.proofs.TableLaws.{tabled}
use Rattle.blake3.proofs.rounds.permute.Goals as goal

pub returns : goal.returns
returns c = tabled (λ i. word c.args.m (word places i)) c.from_fn.ensures.items (λ i y q k. search rules)
