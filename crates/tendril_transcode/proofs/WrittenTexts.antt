-- Texts whose bytes, or a prefix of them, were written.
use Rattle.std.proofs.Common.{ℕ, List, [], ◌++◌, Option, refl, sym, ap, ap₂, ◌∙◌, append_assoc, append-nil, IsUtf8}
use Rattle.std.proofs.Common.{chars}
use Rattle.std.proofs.KnownBytes.{Appends-trans}
use Rattle.std.proofs.lemmas.Str.{IsUtf8-append, chars-append}
use Rattle.std.specs.Io.KnownBytes.{Appends}
use Rattle.tendril_lossy.proofs.Told.{characters-append}
use Rattle.tendril_lossy.specs.Lossy.{characters}
use Rattle.tendril_stream.specs.Decodings.{Decoding, IsDecoding}
use Rattle.tendril_transcode.specs.Transcodings.{WritesText, WritesFrontOfText, chars_of_all, chars_so_far}
use Rattle.tendril_script.specs.Writing.{AppendsFront}

-- a text whose bytes, or a prefix of them, were written
pub writes_text : (before after : Option (List ℕ)) (bytes : List ℕ) → IsUtf8 bytes → Appends before after bytes
    → WritesText (chars bytes) before after
writes_text before after bytes u h = record { bytes = bytes; utf8 = u; spells = refl; appends = h }

pub front_of_text : (before after : Option (List ℕ)) (bytes : List ℕ) → IsUtf8 bytes → AppendsFront before after bytes
    → WritesFrontOfText (chars bytes) before after
front_of_text before after bytes u h =
    record { bytes = bytes; rest = []; utf8 = u; spells = append-nil (chars bytes); front = h }

-- one text after the other
pub writes_both : (a b c : Option (List ℕ)) (cs ds : List ℕ) → WritesText cs a b → WritesText ds b c
    → WritesText (cs ++ ds) a c
writes_both a b c cs ds x y = record {
  bytes = x.bytes ++ y.bytes;
  utf8 = IsUtf8-append x.bytes y.bytes x.utf8 y.utf8;
  spells = chars-append x.bytes y.bytes x.utf8 ∙ ap₂ (λ l m. l ++ m) x.spells y.spells;
  appends = Appends-trans a b c x.bytes y.bytes x.appends y.appends;
}

pub writes_then_front : (a b c : Option (List ℕ)) (cs ds : List ℕ) → WritesText cs a b → WritesFrontOfText ds b c
    → WritesFrontOfText (cs ++ ds) a c
writes_then_front a b c cs ds x y = record {
  bytes = x.bytes ++ y.bytes;
  rest = y.rest;
  utf8 = IsUtf8-append x.bytes y.bytes x.utf8 y.utf8;
  spells = ap (λ l. l ++ y.rest) (chars-append x.bytes y.bytes x.utf8)
      ∙ append_assoc (chars x.bytes) (chars y.bytes) y.rest ∙ ap₂ (λ l m. l ++ m) x.spells y.spells;
  front = record {
    taken = x.bytes ++ y.front.taken;
    rest = y.front.rest;
    splits =
        ap (λ l. x.bytes ++ l) y.front.splits ∙ sym (append_assoc x.bytes y.front.taken y.front.rest);
    appends =
        Appends-trans a b c x.bytes y.front.taken x.appends y.front.appends;
  };
}

module _ {K : Type 0} (decoding : Decoding K) (start : K) where
  -- the written decoding of the first bytes is a prefix of the decoding of all
  pub front_of_all : IsDecoding decoding → (before after : Option (List ℕ)) (b l : List ℕ)
      → WritesText (chars_so_far decoding start b) before after
      → WritesFrontOfText (chars_so_far decoding start (b ++ l)) before after
  front_of_all is before after b l w = record {
    bytes = w.bytes;
    rest = characters (decoding.out (decoding.after start b) l);
    utf8 = w.utf8;
    spells = ap (λ cs. cs ++ characters (decoding.out (decoding.after start b) l)) w.spells
        ∙ sym (characters-append (decoding.out start b) (decoding.out (decoding.after start b) l))
        ∙ ap characters (sym (is.out_both start b l));
    front = record { taken = w.bytes; rest = []; splits = sym (append-nil w.bytes); appends = w.appends };
  }

  -- and of the decoding of the first bytes and the end
  pub front_of_end : (before after : Option (List ℕ)) (b : List ℕ)
      → WritesText (chars_so_far decoding start b) before after
      → WritesFrontOfText (chars_of_all decoding start b) before after
  front_of_end before after b w = record {
    bytes = w.bytes;
    rest = characters (decoding.ends (decoding.after start b));
    utf8 = w.utf8;
    spells = ap (λ cs. cs ++ characters (decoding.ends (decoding.after start b))) w.spells
        ∙ sym (characters-append (decoding.out start b) (decoding.ends (decoding.after start b)));
    front = record { taken = w.bytes; rest = []; splits = sym (append-nil w.bytes); appends = w.appends };
  }
