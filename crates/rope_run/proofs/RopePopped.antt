-- A character that is popped from a rope.
use Rattle.std.proofs.Common.{◌≡◌, ℕ, [], ◌∷◌, ◌++◌, length, drop, sym, ap, ◌∙◌, Option, Some, None}
use Rattle.std.specs.Prelude.{IfSome, IfNone, chars, encode_utf8}
use Rattle.std.proofs.Math.Seq.{drop-append_seam}
use Rattle.std.proofs.lemmas.Str.{chars-nil}
use Rattle.rope_text.specs.Ropes.{RopeText}
use Rattle.tendril_run.specs.Characters.{first_of, without_first}

pub popped_first : (old new : RopeText) (found : Option ℕ) → IfSome found (λ c. chars old.bytes ≡ c ∷ chars new.bytes)
    → IfNone found ((old.bytes ≡ []) × (new ≡ old)) → found ≡ first_of (chars old.bytes)
popped_first old new (Some c) some none = sym (ap first_of some)
popped_first old new None some none = sym (ap (λ b. first_of (chars b)) none.0 ∙ ap first_of chars-nil)

pub popped_rest : (old new : RopeText) (found : Option ℕ) → IfSome found (λ c. chars old.bytes ≡ c ∷ chars new.bytes)
    → IfSome found (λ c. old.bytes ≡ encode_utf8 c ++ new.bytes) → IfNone found ((old.bytes ≡ []) × (new ≡ old))
    → new.bytes ≡ without_first encode_utf8 (chars old.bytes) old.bytes
popped_rest old new (Some c) some bytes none =
    sym (ap (λ cs. without_first encode_utf8 cs old.bytes) some ∙ ap (λ l. drop (length (encode_utf8 c)) l) bytes
    ∙ drop-append_seam (encode_utf8 c) new.bytes)
popped_rest old new None some bytes none = ap (λ (r : RopeText). r.bytes) none.1
    ∙ sym (ap (λ b. without_first encode_utf8 (chars b) old.bytes) none.0
    ∙ ap (λ cs. without_first encode_utf8 cs old.bytes) chars-nil)
