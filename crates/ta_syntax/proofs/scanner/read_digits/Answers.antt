use Rattle.ta_syntax.proofs.Common.{take, is_ascii_digit, prefix_len, prefix_len-le-length, digits_ascii, all_front}
use Rattle.ta_syntax.proofs.Words.{number_from}
use Rattle.ta_syntax.proofs.scanner.read_digits.Goals as goal

pub split_at-requires : goal.split_at-requires
split_at-requires c = rw c.digits_len.ensures (prefix_len-le-length is_ascii_digit c.args.bytes.now)

pub ascii_text-requires : goal.ascii_text-requires
ascii_text-requires c = rw (c.split_at.ensures.front, c.digits_len.ensures)
    (digits_ascii (take (prefix_len is_ascii_digit c.args.bytes.now) c.args.bytes.now) (all_front is_ascii_digit c.args.bytes.now))

pub returns : goal.returns
returns c = rw (c.in_ok-ascii_text.ensures, c.split_at.ensures.front, c.split_at.ensures.back, c.digits_len.ensures) (number_from c.args.bytes.now c.requires)
