-- The two laws of keys: keys that test the same are equal, and a key tests the same as itself; and labels of one key that are equal in the five are
-- equal. Assumes nothing.
use Rattle.std.specs.Prelude.{◌≡◌, true, ◌&&◌, eqb}
use Rattle.std.proofs.Common.{eqb-true}
use Rattle.octets.specs.Octets.{same}
use Rattle.octets.specs.BoolsLaws.{split}
use Rattle.octets.specs.CompareLaws.{same-eq, same_refl}
use Rattle.machine.specs.Values.{Label, Key, key_of, same_key, equal_in_five}

pub key-eq : (j k : Key) → same_key j k ≡ true → j ≡ k
unfolding same_key
key-eq j k h = same-eq j k h

pub key-refl : (k : Key) → same_key k k ≡ true
unfolding same_key
key-refl k = same_refl k

pub five-eq : (g h : Label) → key_of g ≡ key_of h → equal_in_five g h ≡ true → g ≡ h
unfolding equal_in_five
five-eq g h k e =
    let sources = same g.source h.source in
    let destinations = same g.destination h.destination in
    let totals = eqb g.total h.total in
    let topics = same g.topic h.topic in
    let four = split (sources && destinations && totals && topics) (eqb g.reply h.reply) e in
    let three = split (sources && destinations && totals) topics four.0 in
    let two = split (sources && destinations) totals three.0 in
    let one = split sources destinations two.0 in
    λ i. record {
      id = k i;
      source = same-eq g.source h.source one.0 i;
      destination = same-eq g.destination h.destination one.1 i;
      reply = eqb-true g.reply h.reply four.1 i;
      total = eqb-true g.total h.total two.1 i;
      topic = same-eq g.topic h.topic three.1 i;
    }
