use Rattle.ta_search.proofs.Common.{◌≡◌, string_bytes, take, tried_texts}
use Rattle.ta_search.proofs.printing.search_text.Given as goal

abbrev pub invariant-vectors : goal.invariant-vectors
invariant-vectors l = record { so_far : string_bytes l.text ≡ tried_texts l.holes (take l.next-index l.tried) }
