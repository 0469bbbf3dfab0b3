use Rattle.ta_syntax.proofs.Common.{subst, sym, rules}
use Rattle.std.specs.Str.{IsUtf8}
use Rattle.std.proofs.lemmas.Str.{IsUtf8-from_ascii}
use Rattle.ta_syntax.proofs.scanner.ascii_text.Goals as goal

pub unreachable-requires : goal.unreachable-requires
unreachable-requires c =
    let valid = subst IsUtf8 (sym c.in_ok-bytes.ensures.items) (IsUtf8-from_ascii c.args.bytes.now c.requires) in
    let ok = c.in-Err.ensures.succeeds valid in
    search (rules, ok)
