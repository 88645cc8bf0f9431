-- Entries of the indexes of several bytes: each is a scalar value, or 0.
use Rattle.std.proofs.Common.{◌≡◌, ℕ, zero, suc, true, List, [], ◌∷◌, slice_index, refl}
use Rattle.std.specs.Char.{IsScalar}
use Rattle.std.specs.List.{list_all}
use Rattle.std.proofs.lemmas.Bool.{and_parts}
use lib.Utf8.{scalar}
use Rattle.tendril_decode.specs.declared.tables.big5.TheConstants.{BIG5}
use Rattle.tendril_decode.specs.declared.tables.euc_kr.TheConstants.{EUC_KR}
use Rattle.tendril_decode.specs.declared.tables.gb18030.TheConstants.{GB18030}
use Rattle.tendril_decode.specs.declared.tables.jis0208.TheConstants.{JIS0208}
use Rattle.tendril_decode.specs.declared.tables.jis0212.TheConstants.{JIS0212}

entry_at : (xs : List ℕ) (i : ℕ) → list_all scalar xs ≡ true → IsScalar (slice_index xs i)
entry_at [] i h = refl
entry_at (x ∷ xs) zero h = (and_parts (scalar x) (list_all scalar xs) h).0
entry_at (x ∷ xs) (suc i) h = entry_at xs i (and_parts (scalar x) (list_all scalar xs) h).1

all-big5 : list_all scalar BIG5 ≡ true
all-big5 = refl

pub scalar-big5 : (i : ℕ) → IsScalar (slice_index BIG5 i)
scalar-big5 i = entry_at BIG5 i all-big5

all-euc_kr : list_all scalar EUC_KR ≡ true
all-euc_kr = refl

pub scalar-euc_kr : (i : ℕ) → IsScalar (slice_index EUC_KR i)
scalar-euc_kr i = entry_at EUC_KR i all-euc_kr

all-gb18030 : list_all scalar GB18030 ≡ true
all-gb18030 = refl

pub scalar-gb18030 : (i : ℕ) → IsScalar (slice_index GB18030 i)
scalar-gb18030 i = entry_at GB18030 i all-gb18030

all-jis0208 : list_all scalar JIS0208 ≡ true
all-jis0208 = refl

pub scalar-jis0208 : (i : ℕ) → IsScalar (slice_index JIS0208 i)
scalar-jis0208 i = entry_at JIS0208 i all-jis0208

all-jis0212 : list_all scalar JIS0212 ≡ true
all-jis0212 = refl

pub scalar-jis0212 : (i : ℕ) → IsScalar (slice_index JIS0212 i)
scalar-jis0212 i = entry_at JIS0212 i all-jis0212
