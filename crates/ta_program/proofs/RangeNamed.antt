-- What `compress` prints where a guard leaves the range.
use Rattle.ta_program.proofs.Common.{compress_meaning}
use Rattle.ta_meaning.specs.Laws.{FirstFaultsAreUnique}
use Rattle.ta_program.specs.Compress.{out_of_range_line}
use Rattle.ta_program.specs.Laws.{CompressNamesTheRange}
use Rattle.ta_program.proofs.Clauses.{as_compress}
use Rattle.ta_program.proofs.Compressing.{refused_outside}
use Rattle.ta_program.proofs.FaultsNamed.{compress_once, names_fault}
use Rattle.ta_program.proofs.Meanings.{compress_decides}

pub range_named : FirstFaultsAreUnique → CompressNamesTheRange
range_named unique words number before after h asked asks told is line leaves =
    let m = compress_meaning asked in
    let named = names_fault m told number before after is (as_compress words number before after h asked asks) (compress_decides asked)
    (compress_once unique told asked) in
    named.just 4 (out_of_range_line asked.other line) (refused_outside told asked line leaves)
