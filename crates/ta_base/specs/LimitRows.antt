-- The two rows of limits: what `Limits::narrow` and `Limits::wide` give.
use Rattle.std.proofs.Common.{lit≤}
use Rattle.ta_base.specs.declared.limits.Limits.{Limits}

-- the limits of a file unless wider ones are asked for
abbrev pub narrow : Limits
narrow = record {
  bytes = 1048576;
  line_bytes = 1048576;
  parameters = 16;
  shared = 16;
  locations = 32;
  rules = 128;
  patterns = 16;
  rises = 16;
  falls = 6;
  few_bytes = lit≤ tt;
  long_lines = lit≤ tt;
  leaf_lines = lit≤ tt;
  some_parameters = lit≤ tt;
  some_shared = lit≤ tt;
  few_parameters = lit≤ tt;
  few_shared = lit≤ tt;
  few_locations = lit≤ tt;
  few_rules = lit≤ tt;
  few_patterns = lit≤ tt;
  few_rises = lit≤ tt;
  few_falls = lit≤ tt;
}

-- the wider limits
abbrev pub wide : Limits
wide = record {
  bytes = 4194304;
  line_bytes = 8388608;
  parameters = 32;
  shared = 64;
  locations = 128;
  rules = 1024;
  patterns = 64;
  rises = 64;
  falls = 16;
  few_bytes = lit≤ tt;
  long_lines = lit≤ tt;
  leaf_lines = lit≤ tt;
  some_parameters = lit≤ tt;
  some_shared = lit≤ tt;
  few_parameters = lit≤ tt;
  few_shared = lit≤ tt;
  few_locations = lit≤ tt;
  few_rules = lit≤ tt;
  few_patterns = lit≤ tt;
  few_rises = lit≤ tt;
  few_falls = lit≤ tt;
}
