-- Encodings of one byte: at most three bytes of UTF-8 for each byte.
use Rattle.std.proofs.Common.{◌≡◌, ◌≤◌, ◌+◌, ◌*◌, ℕ, List, [], ◌∷◌, ◌++◌, length, refl, sym, ap, subst, ◌∙◌, arith}
use Rattle.std.proofs.Common.{zero, suc, ⊎_elim, length-append, append-nil}
use Rattle.std.proofs.lemmas.Str.{encodes-append}
use Rattle.std.specs.Char.{encode_utf8}
use Rattle.std.specs.Str.{encode_utf8_all}
use Rattle.tendril_decode.specs.Machines.{invalid, told_from}
use Rattle.tendril_decode.specs.Single.{table_of, tells_byte}
use Rattle.tendril_decode.specs.declared.any_decoder.AnyDecoder.TheVariants.{Single}
use Rattle.tendril_decode.specs.declared.single_byte.SingleByte.{SingleByte}
use Rattle.tendril_fmt.specs.Bytes.{AreBytes}
use Rattle.tendril_encoding.proofs.SingleTables.{TellsFew, few_told}
use Rattle.tendril_encoding.proofs.Ascii.{state_single}
use Rattle.tendril_encoding.specs.Known.{slices}
use Rattle.tendril_encoding.specs.Laws.{decoded_known}
use Rattle.tendril_encoding.specs.Outputs.{told_len}
use Rattle.tendril_encoding.specs.declared.known.Chosen.TheVariants.{Slices}
use Rattle.tendril_lossy.proofs.Told.{characters-append}
use Rattle.tendril_lossy.specs.Lossy.{Told, characters}

len_both : (t u : List Told) → told_len (t ++ u) ≡ told_len t + told_len u
len_both t u =
    ap (λ l. length (encode_utf8_all l)) (characters-append t u)
    ∙ ap length (encodes-append (characters t) (characters u))
    ∙ length-append (encode_utf8_all (characters t)) (encode_utf8_all (characters u))

invalid_len : told_len invalid ≡ 3
unfolding encode_utf8
invalid_len = refl

few_len : (told : List Told) → TellsFew told → told_len told ≤ 3
few_len told h = ⊎_elim
    (λ none. omega (arith, ap told_len none, invalid_len))
    (λ k. omega (arith, ap told_len k.3, ap length (append-nil (encode_utf8 k.0)), k.2))
    h

told_short : (e : SingleByte) (b : List ℕ) → AreBytes b → told_len (told_from slices (Single e) b) ≤ 3 * length b
told_short e [] h = omega arith
told_short e (x ∷ b) h =
    let here : told_len (tells_byte (table_of e) x) ≤ 3 = few_len (tells_byte (table_of e) x) (few_told e x (h zero)) in
    let more : told_len (told_from slices (Single e) b) ≤ 3 * length b = told_short e b (λ i. h (suc i)) in
    omega (arith, len_both (tells_byte (table_of e) x) (told_from slices (Single e) b), here, more)

pub single_short : (e : SingleByte) (b : List ℕ) → AreBytes b
    → told_len (decoded_known (Slices (Single e)) b) ≤ 3 * length b
single_short e b h =
    let told = told_from slices (Single e) b in
    subst (λ (t : List Told). told_len t ≤ 3 * length b)
    (sym (ap (λ s. told ++ slices.ends s) (state_single e b) ∙ append-nil told)) (told_short e b h)
