-- How many bytes a character takes in UTF-8.
use Rattle.std.proofs.Common.{◌<◌, ◌≤◌, ℕ, length, arith}
use Rattle.std.specs.Char.{encode_utf8, len_utf8}
use Rattle.std.proofs.lemmas.Bool.Decides.{nat_tests}
use Rattle.std.proofs.lemmas.Str.{length-encode, len_utf8_bounds}

pub some_bytes : (c : ℕ) → 0 < length (encode_utf8 c)
some_bytes c = omega (arith, length-encode c, (len_utf8_bounds c).0)

pub four_at_most : (c : ℕ) → length (encode_utf8 c) ≤ 4
four_at_most c = omega (arith, length-encode c, (len_utf8_bounds c).1)

three_len : (c : ℕ) → c < 0x1_0000 → len_utf8 c ≤ 3
three_len c lt = grind (arith, nat_tests)

pub three_at_most : (c : ℕ) → c < 0x1_0000 → length (encode_utf8 c) ≤ 3
three_at_most c lt = omega (arith, length-encode c, three_len c lt)

two_len : (c : ℕ) → c < 0x800 → len_utf8 c ≤ 2
two_len c lt = grind (arith, nat_tests)

pub two_at_most : (c : ℕ) → c < 0x800 → length (encode_utf8 c) ≤ 2
two_at_most c lt = omega (arith, length-encode c, two_len c lt)
