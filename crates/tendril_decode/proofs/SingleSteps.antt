-- Steps of the decoder of one byte a character.
use Rattle.std.proofs.Common.{◌≡◌, ℕ, ◌+◌, ◌-◌, ◌<◌, ◌≤◌, true, List, [], ◌∷◌, ◌++◌, length, take, drop, slice_index}
use Rattle.std.proofs.Common.{refl, sym, ap, subst, ◌∙◌, arith}
use Rattle.std.specs.List.{AllByRecursion}
use Rattle.std.specs.Prelude.{nat_lt, slice_range}
use Rattle.std.proofs.lemmas.Bool.{cond-true}
use Rattle.std.proofs.lemmas.Bool.Decides.{nat_tests}
use Rattle.std.proofs.lemmas.List.{length-drop, length-take-le}
use Rattle.tendril_lossy.specs.Lossy.{Char}
use Rattle.tendril_decode.specs.declared.single_byte.SingleByte.{SingleByte}
use Rattle.tendril_decode.specs.Single.{DecodesIn, single_byte, table_of, tells_byte}
use Rattle.tendril_decode.proofs.CharacterSteps.{ascii_done}
use Rattle.tendril_decode.proofs.AsciiFronts.{ascii_front, front_of}
use Rattle.tendril_fmt.proofs.Written.{front_written}

ascii_told : (table : List ℕ) (b : ℕ) → b < 0x80 → tells_byte table b ≡ Char b ∷ []
ascii_told table b h = let low : nat_lt b 0x80 ≡ true = grind (arith, nat_tests) in cond-true _ _ _ low

-- after a run of ASCII bytes, which tell themselves
pub run_done : (s : SingleByte) (input text : List ℕ) (read end : ℕ) → read ≤ end
    → DecodesIn s input text [] (drop read input)
    → AllByRecursion (λ b. b < 0x80) (slice_range input read end)
    → DecodesIn s input (text ++ slice_range input read end) [] (drop end input)
run_done s input text read end le d ascii =
    ascii_done (single_byte s) s s input text (text ++ slice_range input read end) read d
    (λ b h. (ascii_told (table_of s) b h, refl)) end le ascii refl

-- after the ASCII bytes that a block begins with, which was written whole
pub front_done : (s : SingleByte) (input block new old : List ℕ) (from start n end : ℕ) → n ≤ 16
    → from + 16 ≤ length input → start ≤ length old → start + 16 ≤ end → block ≡ slice_range input from (from + 16)
    → take end new ≡ take start old ++ block → ((k : ℕ) → k < n → slice_index block k < 0x80)
    → DecodesIn s input (take start old) [] (drop from input)
    → DecodesIn s input (take (start + n) new) [] (drop (from + n) input)
front_done s input block new old from start n end few there within past is written ascii d =
    let front = front_of input block from n few is in
    let long : length block ≡ from + 16 - from =
    ap length is ∙ length-take-le (from + 16 - from) (drop from input) (omega (arith, length-drop from input)) in
    subst (λ l. DecodesIn s input l [] (drop (from + n) input))
    (sym (front_written new old block start n end written within (omega arith)
    ∙ ap (λ l. take start old ++ l) front))
    (run_done s input (take start old) from (from + n) (omega arith) d
    (subst (AllByRecursion (λ b. b < 0x80)) front (ascii_front block n (omega (arith, long)) ascii)))
