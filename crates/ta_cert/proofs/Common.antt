-- The names that the proofs of this crate cite, passed on from one place. Declares nothing.
pub use Rattle.std.proofs.Common.{Bool, Err, List, None, Ok, Option, Result, Some, [], ap, append-nil, append_assoc, arith, codes, decimal, drop, eqb-true}
pub use Rattle.std.proofs.Common.{false, false-eqb, if◌then◌else◌, length, length-append, lit<, lit≤, map, nat_lt, negsuc, not, pos, refl, rules, string_bytes}
pub use Rattle.std.proofs.Common.{subst, suc, sym, tests, true, zero, ℕ, ℤ, ◌++◌, ◌+◌, ◌<◌, ◌==◌, ◌^◌, ◌||◌, ◌∙◌, ◌∷◌, ◌≡◌, ◌≢◌, ◌≤◌}
pub use Rattle.std.proofs.lemmas.Bool.{false≢true, or_parts}
pub use Rattle.std.proofs.lemmas.Int.{ints}
pub use Rattle.std.proofs.lemmas.List.{at_drop_all}
pub use Rattle.std.proofs.result.Match.{err_is}
pub use Rattle.std.specs.Fmt.{signed_decimal}
pub use Rattle.std.specs.List.{AllByRecursion, concat}
pub use Rattle.std.specs.Str.Parse.{digits_value}
pub use Rattle.ta_base.proofs.DecimalDigits.{decimal_avoids, digits_are, multiplier_number, number_at, run, value-decimal}
pub use Rattle.ta_base.proofs.Digits.{decimal_plain}
pub use Rattle.ta_base.proofs.Lists.{append_last, append_nothing, avoids-append, avoids_known, first_byte, next_shorter, whole_more}
pub use Rattle.ta_base.proofs.Naturals.{wide}
pub use Rattle.ta_base.specs.Bytes.{Avoids, BeginsOtherwise, SplitAt}
pub use Rattle.ta_base.specs.Decimals.{BeginsNoDigit, DecimalAt, DigitsAt, NoDecimalAt, is_padded}
pub use Rattle.ta_cert.specs.Certificates.{AreOrders, AreWritable, cert_lines, cert_text, head_text, nodes_text, order_lines, order_text, orders_text}
pub use Rattle.ta_cert.specs.Certificates.{proof_lines, proof_text, proofs_text, question_lines, question_text, version_of}
pub use Rattle.ta_cert.specs.Laws.{AreLater, AreLines, AreShort, IsWhole, by_pieces, has_line, line_number, numbered_lines, unnumbered}
pub use Rattle.ta_cert.specs.Lines.{ArePairs, IsLine, IsMultiplierPair, IsNode, IsVersion, SaysLine, by_word, cert_lines_text, form_or, forms, go_on, has_end}
pub use Rattle.ta_cert.specs.Lines.{header, is_end, is_header, leaf, line_text, node_text, numbered, order_of, pair, pair_text, pairs_text, short, some_pairs}
pub use Rattle.ta_cert.specs.Lines.{split_text, two_numbers}
pub use Rattle.ta_cert.specs.Parsers.{Found, Parser, and_then, at_end, behind, ended, found_word, keep, pure, word}
pub use Rattle.ta_cert.specs.Streams.{Fails, IsFault, Outcome, State, add_lines, behind_line, end_of, ended_by, failed, finish, finished}
pub use Rattle.ta_cert.specs.Streams.{first_line, line_feed, next, on, other_byte, start, state, step, steps, text_lines}
pub use Rattle.ta_cert.specs.declared.fault.CertFault.{CertFault}
pub use Rattle.ta_cert.specs.declared.line.Line.{Line}
pub use Rattle.ta_cert.specs.declared.line.Node.{Node}
pub use Rattle.ta_cert.specs.declared.line.Order.{Order}
pub use Rattle.ta_cert.specs.declared.line.Proof.{Proof}
pub use mathlib.Core.Bool.{beq, or-false}
