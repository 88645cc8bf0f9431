use Rattle.std.proofs.Common.{ℕ, ◌≡◌, ◌<◌, ◌+◌, ◌^◌, ◌↔◌, Option, ◌≢◌, List, length, get_or, Result, Ok, Err, Some}
use Rattle.std.proofs.Common.{arith, sym, ◌∙◌, ap, inl, inr}
use Rattle.std.proofs.lemmas.Bool.{cases_lt}
use Rattle.std.specs.Result.{result_ok, OkIff, MatchResult}
use Rattle.std.specs.Option.{MatchOption}
use Rattle.std.specs.Fmt.{decimal}
use Rattle.std.specs.Str.{IsUtf8}
use Rattle.std.specs.Str.Parse.{AllDigits, digits_value, ParsesUnsigned, IsNumeral}
use Rattle.std.proofs.lemmas.Str.{IsUtf8-from_ascii}
use Rattle.std.proofs.lemmas.Str.Parse.{IsNumeralModel, numerals_by_value, tells_digits, parse_plain, digit_at}
use Rattle.std.proofs.lemmas.Fmt.{IsAscii-decimal, decimal_is_IsNumeral, parse-decimal, first_decimal, decimal_digit}
use Rattle.std.proofs.lemmas.Fmt.{decimal-digits_value}
use Rattle.tendril_lines.specs.Words.{IsNumberUpTo, IsLongNumber, IsPlain}

own : IsNumeralModel (AllDigits 10) (digits_value 10)
own = numerals_by_value (AllDigits 10) tells_digits

-- the shape of a number's digits
pub record HasShape (word : List ℕ) : Type 0 where
  pub nonempty : 0 < length word
  pub first : get_or word 0 0 ≢ 43
  pub zero : get_or word 0 0 ≡ 48 → length word ≡ 1
  pub utf8 : IsUtf8 word

shape_decimal : (n : ℕ) → n < 2 ^ 64 → HasShape (decimal n)
shape_decimal n small =
    let num : IsNumeral 10 (decimal n) = (decimal_is_IsNumeral n small).0 in
    let d = digit_at (decimal n) 0 num.1 num.0 in
    record {
      nonempty = num.0;
      first = λ e. omega (arith, d);
      zero = λ e. elim (cases_lt 0 n) [
        | inl above ↦ absurd (omega (arith, first_decimal n above small))
        | inr none ↦ ap length (decimal_digit n (omega arith))
      ];
      utf8 = IsUtf8-from_ascii (decimal n) (IsAscii-decimal n small);
    }

pub shape_of : (n : ℕ) (word : List ℕ) → IsLongNumber n word → HasShape word
shape_of n word h = rw h.1 (shape_decimal n (omega (arith, h.0)))

-- a word that is parsed to a number is its decimal digits
pub number_parsed : {E : Type 0} (bits limit n : ℕ) (word : List ℕ) (r : Result ℕ E) → limit + 1 ≡ 2 ^ bits
    → limit < 2 ^ 64 → IsPlain word → ParsesUnsigned bits 10 word r → r ≡ Ok n → IsNumberUpTo limit n word
number_parsed bits limit n word r is small plain parsed ok =
    let p : OkIff r (AllDigits 10 word × (0 < length word) × (digits_value 10 word < 2 ^ bits))
    (digits_value 10 word) = parse_plain own bits word r parsed plain.0 in
    let q : (AllDigits 10 word × (0 < length word) × (digits_value 10 word < 2 ^ bits)) × (n ≡ digits_value 10 word) =
    rw ok at p in (
      omega (arith, q.1, q.0.2, is),
      sym
          (ap decimal q.1 ∙ decimal-digits_value own word q.0.0 q.0.1 plain.1 (omega (arith, q.0.2, is, small))),
    )

pub number_parses : {E : Type 0} (bits limit n : ℕ) (word : List ℕ) (r : Result ℕ E) → limit + 1 ≡ 2 ^ bits
    → limit < 2 ^ 64 → ParsesUnsigned bits 10 word r → IsNumberUpTo limit n word → r ≡ Ok n
number_parses bits limit n word r is small parsed h = parse-decimal bits n word r (omega (arith, h.0, is))
    (omega (arith, h.0, small)) h.1 parsed

pub from_result_ok : {T E : Type 0} (r : Result T E) (x : T) → result_ok r ≡ Some x → r ≡ Ok x
from_result_ok (Ok y) x e = cc
from_result_ok (Err y) x e = cc

-- what holds of a result holds of its value, if it has one
pub as_option : {T E : Type 0} (P B : T → Type 0) (Q : E → Type 0) (A : Type 0) (r : Result T E)
    → ((x : T) → P x → B x) → ((e : E) → Q e → A) → MatchResult r P Q → MatchOption (result_ok r) A B
as_option P B Q A (Ok x) found none h = found x h
as_option P B Q A (Err e) found none h = none e h

-- a parse returns a number exactly if the word denotes it
pub number_read : {E : Type 0} (bits limit n : ℕ) (word : List ℕ) (r : Result ℕ E) (result : Option ℕ) → limit + 1
    ≡ 2 ^ bits → limit < 2 ^ 64 → IsPlain word → ParsesUnsigned bits 10 word r → result ≡ result_ok r
    → (result ≡ Some n) ↔ IsNumberUpTo limit n word
number_read bits limit n word r result is small plain parsed value = (
  λ e. number_parsed bits limit n word r is small plain parsed (from_result_ok r n (sym value ∙ e)),
  λ h. value ∙ ap result_ok (number_parses bits limit n word r is small parsed h),
)
