use Rattle.ta_meaning.proofs.Common.{rules, plain_location, location_name}
use Rattle.std.proofs.lemmas.Simd.{map-map}
use Rattle.ta_meaning.proofs.file.location_names.Goals as goal

pub returns : goal.returns
returns c = rw (map-map location_name plain_location c.args.locations.items) (search rules)
