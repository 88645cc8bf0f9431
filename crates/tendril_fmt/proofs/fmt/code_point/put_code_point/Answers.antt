use Rattle.std.proofs.Common.{◌≡◌, ℕ, List, ◌++◌, ◌∷◌, [], length, ap, ◌∙◌, arith, append_assoc}
use Rattle.tendril_fmt.specs.Proved.Encodings.{encode_utf8_2, encode_utf8_3, encode_utf8_4}
use Rattle.tendril_fmt.proofs.fmt.code_point.put_code_point.Goals as goal

pub put-at-requires : goal.put-at-requires
put-at-requires c = omega (
  arith,
  ap length (encode_utf8_2 c.args.code c.if-code-lt128.false c.if-code-lt2048.true),
  c.requires.fits,
)

pub put-requires-then-code-lt2048 : goal.put-requires-then-code-lt2048
put-requires-then-code-lt2048 c =
    omega (
      arith,
      ap length (encode_utf8_2 c.args.code c.if-code-lt128.false c.if-code-lt2048.true),
      c.requires.fits,
      c.put-at.ensures.place,
      c.put-at.auto.bytes,
    )

pub returns-then-code-lt2048-clause-place : goal.returns-then-code-lt2048-clause-place
returns-then-code-lt2048-clause-place c =
    omega (
      arith,
      ap length (encode_utf8_2 c.args.code c.if-code-lt128.false c.if-code-lt2048.true),
      c.requires.fits,
      c.put-at.ensures.place,
      c.put-at.auto.bytes,
      c.put-then-code-lt2048.ensures.place,
    )

pub put-at-requires-then-code-lt65536 : goal.put-at-requires-then-code-lt65536
put-at-requires-then-code-lt65536 c =
    omega (arith, ap length (encode_utf8_3 c.args.code c.if-code-lt2048.false c.if-code-lt65536.true), c.requires.fits)

pub put-at-requires-then-code-lt65536-2 : goal.put-at-requires-then-code-lt65536-2
put-at-requires-then-code-lt65536-2 c =
    omega (
      arith,
      ap length (encode_utf8_3 c.args.code c.if-code-lt2048.false c.if-code-lt65536.true),
      c.requires.fits,
      c.put-at-then-code-lt65536.ensures.place,
      c.put-at-then-code-lt65536.auto.bytes,
    )

pub put-requires-then-code-lt65536 : goal.put-requires-then-code-lt65536
put-requires-then-code-lt65536 c =
    omega (
      arith,
      ap length (encode_utf8_3 c.args.code c.if-code-lt2048.false c.if-code-lt65536.true),
      c.requires.fits,
      c.put-at-then-code-lt65536.ensures.place,
      c.put-at-then-code-lt65536.auto.bytes,
      c.put-at-then-code-lt65536-2.ensures.place,
      c.put-at-then-code-lt65536-2.auto.bytes,
    )

pub returns-then-code-lt65536-clause-place : goal.returns-then-code-lt65536-clause-place
returns-then-code-lt65536-clause-place c =
    omega (
      arith,
      ap length (encode_utf8_3 c.args.code c.if-code-lt2048.false c.if-code-lt65536.true),
      c.requires.fits,
      c.put-at-then-code-lt65536.ensures.place,
      c.put-at-then-code-lt65536.auto.bytes,
      c.put-at-then-code-lt65536-2.ensures.place,
      c.put-at-then-code-lt65536-2.auto.bytes,
      c.put-then-code-lt65536.ensures.place,
    )

pub put-at-requires-2 : goal.put-at-requires-2
put-at-requires-2 c = omega (arith, ap length (encode_utf8_4 c.args.code c.if-code-lt65536.false), c.requires.fits)

pub put-at-requires-3 : goal.put-at-requires-3
put-at-requires-3 c = omega (
  arith,
  ap length (encode_utf8_4 c.args.code c.if-code-lt65536.false),
  c.requires.fits,
  c.put-at-2.ensures.place,
  c.put-at-2.auto.bytes,
)

pub put-at-requires-4 : goal.put-at-requires-4
put-at-requires-4 c = omega (
  arith,
  ap length (encode_utf8_4 c.args.code c.if-code-lt65536.false),
  c.requires.fits,
  c.put-at-2.ensures.place,
  c.put-at-2.auto.bytes,
  c.put-at-3.ensures.place,
  c.put-at-3.auto.bytes,
)

pub put-requires-2 : goal.put-requires-2
put-requires-2 c = omega (
  arith,
  ap length (encode_utf8_4 c.args.code c.if-code-lt65536.false),
  c.requires.fits,
  c.put-at-2.ensures.place,
  c.put-at-2.auto.bytes,
  c.put-at-3.ensures.place,
  c.put-at-3.auto.bytes,
  c.put-at-4.ensures.place,
  c.put-at-4.auto.bytes,
)

pub returns-clause-place : goal.returns-clause-place
returns-clause-place c = omega (
  arith,
  ap length (encode_utf8_4 c.args.code c.if-code-lt65536.false),
  c.requires.fits,
  c.put-at-2.ensures.place,
  c.put-at-2.auto.bytes,
  c.put-at-3.ensures.place,
  c.put-at-3.auto.bytes,
  c.put-at-4.ensures.place,
  c.put-at-4.auto.bytes,
  c.put-2.ensures.place,
)

-- bytes after those to which a byte was appended
joined : (after before : List ℕ) (byte : ℕ) (rest : List ℕ) → after ≡ before ++ byte ∷ [] → after ++ rest
    ≡ before ++ byte ∷ rest
joined after before byte rest e = ap (λ l. l ++ rest) e ∙ append_assoc before (byte ∷ []) rest

pub returns-then-code-lt2048-clause-bytes : goal.returns-then-code-lt2048-clause-bytes
returns-then-code-lt2048-clause-bytes c =
    rw (encode_utf8_2 c.args.code c.if-code-lt128.false c.if-code-lt2048.true) (
    c.put-then-code-lt2048.ensures.bytes
    ∙ joined _ _ _ _ c.put-at.ensures.bytes
    )

pub returns-then-code-lt65536-clause-bytes : goal.returns-then-code-lt65536-clause-bytes
returns-then-code-lt65536-clause-bytes c =
    rw (encode_utf8_3 c.args.code c.if-code-lt2048.false c.if-code-lt65536.true) (
    c.put-then-code-lt65536.ensures.bytes
    ∙ joined _ _ _ _ c.put-at-then-code-lt65536-2.ensures.bytes
    ∙ joined _ _ _ _ c.put-at-then-code-lt65536.ensures.bytes
    )

pub returns-clause-bytes : goal.returns-clause-bytes
returns-clause-bytes c =
    rw (encode_utf8_4 c.args.code c.if-code-lt65536.false) (
    c.put-2.ensures.bytes
    ∙ joined _ _ _ _ c.put-at-4.ensures.bytes
    ∙ joined _ _ _ _ c.put-at-3.ensures.bytes
    ∙ joined _ _ _ _ c.put-at-2.ensures.bytes
    )
