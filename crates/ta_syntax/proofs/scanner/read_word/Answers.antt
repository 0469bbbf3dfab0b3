use Rattle.ta_syntax.proofs.Common.{take, ap, ◌∙◌, ◌≡◌, sym, ℕ, prefix_len, prefix_len-le-length, all_front, mark_bytes, is_word, Mark}
use Rattle.ta_base.proofs.ByteLists.{words_ascii}
use Rattle.ta_syntax.proofs.Words.{name_from}
use Rattle.ta_syntax.proofs.scanner.read_word.Goals as goal

pub split_at-requires : goal.split_at-requires
split_at-requires c = rw c.word_len.ensures (prefix_len-le-length is_word c.args.bytes.now)

pub ascii_text-requires : goal.ascii_text-requires
ascii_text-requires c = rw (c.split_at.ensures.front, c.word_len.ensures)
    (words_ascii (take (prefix_len is_word c.args.bytes.now) c.args.bytes.now) (all_front is_word c.args.bytes.now))

pub returns : goal.returns
returns c =
    let front = c.split_at.ensures.front ∙ ap (λ (n : ℕ). take n c.args.bytes.now) c.word_len.ensures in
    let free = λ (m : Mark) (e : mark_bytes m ≡ take (prefix_len is_word c.args.bytes.now) c.args.bytes.now). c.in_default.ensures m (e ∙ sym front) in
    rw (c.in_ok-ascii_text.ensures, c.split_at.ensures.front, c.split_at.ensures.back, c.word_len.ensures) (name_from c.args.bytes.now c.requires free)
