-- A sink that joins texts holds what it was sent, and a decoder over it is in the state that the bytes so far lead to.
use Rattle.std.proofs.Common.{◌≡◌, ℕ, Bool, List, [], ◌∷◌, ◌++◌, map, Option, sym, ap, ap₂, ◌∙◌, append_assoc}
use Rattle.std.proofs.Common.{append-nil, IsUtf8, chars, Result, Ok, Err, OnOk}
use Rattle.std.proofs.lemmas.Str.{chars-append, chars-nil}
use Rattle.std.specs.List.{FoldsTo}
use Rattle.tendril_text.specs.Texts.{Text}
use Rattle.tendril_errors.specs.declared.refusal.Refusal.{Refusal}
use Rattle.tendril_lossy.proofs.Told.{characters-append, characters-map}
use Rattle.tendril_lossy.specs.Lossy.{Told, Char, characters}
use Rattle.tendril_stream.specs.Decoders.{Decodes, Ends}
use Rattle.tendril_stream.specs.Decodings.{Decoding, IsDecoding}
use Rattle.tendril_stream.specs.Reads.{OneRead, given}
use Rattle.tendril_stream.specs.Sinks.{Sent, Piece, Feeds, told, told_of}
use Rattle.tendril_text.specs.TextLists.{no_text}
use Rattle.tendril_transcode.specs.Transcodings.{IsReady, chars_of_all, chars_so_far}

-- a sink that appends the characters of what it is sent
module _ {S : Type 0} (has : S → List ℕ) where
  abbrev pub Joins : S → Sent → S → Type 0
  Joins a e b = has b ≡ has a ++ characters (told_of e)

  joins : (a : S) (es : List Sent) (b : S) → FoldsTo Joins a es b → has b ≡ has a ++ characters (told es)
  joins a [] b h = ap has (sym h) ∙ sym (append-nil (has a))
  joins a (e ∷ es) b h =
      joins h.0 es b h.2 ∙ ap (λ l. l ++ characters (told es)) h.1
      ∙ append_assoc (has a) (characters (told_of e)) (characters (told es))
      ∙ ap (λ l. has a ++ l) (sym (characters-append (told_of e) (told es)))

  fed : (fit : Sent → Type 0) (a b : S) (due : List Told) → Feeds Joins fit a due b → has b ≡ has a ++ characters due
  fed fit a b due h = joins a h.sent b h.calls ∙ ap (λ t. has a ++ characters t) h.tells

  -- over a decoding, from the state `start`
  module _ {K : Type 0} (decoding : Decoding K) (start : K) where
    -- the written characters and those of the sink are the decoding of b so far, which leads to the state `held`
    pub record Stands (written : List ℕ) (sink : S) (held : K) (b : List ℕ) : Type 0 where
      pub tells : written ++ has sink ≡ chars_so_far decoding start b
      pub keeps : held ≡ decoding.after start b

    -- an empty sink
    pub ready_stands : (these : List OneRead) (before now : Option (List ℕ)) (held : K) (unwritten : List ℕ)
        (failed : Bool) (sink : S) → IsReady decoding start these before now held failed unwritten
        → has sink ≡ chars unwritten
        → Stands (chars_so_far decoding start (given these)) sink held (given these)
    ready_stands these before now held unwritten failed sink ready is =
        record {
          tells = ap (λ l. chars_so_far decoding start (given these) ++ l) (is ∙ ap chars ready.empty ∙ chars-nil)
              ∙ append-nil (chars_so_far decoding start (given these));
          keeps = ready.keeps;
        }

    pub stands_on : IsDecoding decoding → (written : List ℕ) (sink next : S) (k l : K) (b : List ℕ) (piece : Text)
        → Stands written sink k b → Decodes decoding Joins sink k (Piece piece) next l
        → Stands written next l (b ++ piece.bytes)
    stands_on is written sink next k l b piece s h = record {
      tells = ap (λ l. written ++ l) (fed (decoding.fit k piece) sink next (decoding.out k piece.bytes) h.0)
          ∙ sym (append_assoc written (has sink) (characters (decoding.out k piece.bytes)))
          ∙ ap₂ (λ x y. x ++ characters (decoding.out y piece.bytes)) s.tells s.keeps
          ∙ sym (characters-append (decoding.out start b) (decoding.out (decoding.after start b) piece.bytes))
          ∙ ap characters (sym (is.out_both start b piece.bytes));
      keeps = h.1 ∙ ap (λ x. decoding.after x piece.bytes) s.keeps ∙ sym (is.after_both start b piece.bytes);
    }

    pub ended : {O : Type 0} (written : List ℕ) (finishes : S → O → Type 0) (sink : S) (k : K) (b : List ℕ) (out : O)
        → Stands written sink k b → Ends decoding Joins finishes sink k out
        → (last : S) × (written ++ has last ≡ chars_of_all decoding start b) × finishes last out
    ended written finishes sink k b out s h = (
      h.0,
      ap (λ l. written ++ l) (fed (decoding.fit k no_text) sink h.0 (decoding.ends k) h.1)
          ∙ sym (append_assoc written (has sink) (characters (decoding.ends k)))
          ∙ ap₂ (λ x y. x ++ characters (decoding.ends y)) s.tells s.keeps
          ∙ sym (characters-append (decoding.out start b) (decoding.ends (decoding.after start b))),
      h.2,
    )

pub pushed : (r : Result (Unit {0}) Refusal) (old new more : List ℕ) → IsUtf8 old → OnOk r (new ≡ old ++ more)
    → OnOk r (chars new ≡ chars old ++ characters (map Char (chars more)))
pushed (Ok r) old new more u h = ap chars h ∙ chars-append old more u
    ∙ ap (λ l. chars old ++ l) (sym (characters-map (chars more)))
pushed (Err e) old new more u h = tt
