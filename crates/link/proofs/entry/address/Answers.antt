use Rattle.std.proofs.Common.{arith, ap, length}
use Rattle.octets.specs.PartsLaws.{length-part-le}
use Rattle.link.proofs.entry.address.Goals as goal

pub copy_in-requires : goal.copy_in-requires
copy_in-requires c = omega (arith, ap length c.part.ensures, length-part-le c.args.e.now c.args.at 16)
