use Rattle.tendril_fmt.specs.Proved.Units.{units-wtf8, wtf8-units, units-join, join_assoc}
use Rattle.tendril_fmt.proofs.Characters.{PlaceIsLengthBefore-holds}
use Rattle.tendril_fmt.proofs.FourBytes.{RestsOnFourBytes-whole, RestsOnFourBytes-whole_or_surrogate}
use Rattle.tendril_fmt.proofs.LocalTests.{FrontTestIsWhole-utf8, EndTestIsWhole-utf8, SliceTestIsWhole-utf8}
use Rattle.tendril_fmt.proofs.LocalTests.{FrontTestIsWhole-wtf8, EndTestIsWhole-wtf8, SliceTestIsWhole-wtf8}
use Rattle.tendril_fmt.proofs.Unique.{one_class}
use Rattle.tendril_fmt.proofs.Wtf8Joins.{join-nil_left, join-nil_right, join_cut}
use Rattle.tendril_fmt.proofs.fmt.theorems.laws.Goals as goal

pub returns-clause-wtf8_join : goal.returns-clause-wtf8_join
returns-clause-wtf8_join c = record {
  associative = join_assoc;
  unit =
      λ b w. (join-nil_left b w, join-nil_right b w);
  cut = join_cut;
}

pub returns-clause-units_round_trip : goal.returns-clause-units_round_trip
returns-clause-units_round_trip c = units-wtf8

pub returns-clause-text_round_trip : goal.returns-clause-text_round_trip
returns-clause-text_round_trip c = wtf8-units

pub returns-clause-join_appends_units : goal.returns-clause-join_appends_units
returns-clause-join_appends_units c = units-join

pub returns-clause-place_is_length_before : goal.returns-clause-place_is_length_before
returns-clause-place_is_length_before c = PlaceIsLengthBefore-holds

pub returns-clause-one_stands : goal.returns-clause-one_stands
returns-clause-one_stands c = one_class

pub returns-clause-utf8_front : goal.returns-clause-utf8_front
returns-clause-utf8_front c = FrontTestIsWhole-utf8

pub returns-clause-utf8_end : goal.returns-clause-utf8_end
returns-clause-utf8_end c = EndTestIsWhole-utf8

pub returns-clause-utf8_slice : goal.returns-clause-utf8_slice
returns-clause-utf8_slice c = SliceTestIsWhole-utf8

pub returns-clause-utf8_four_bytes : goal.returns-clause-utf8_four_bytes
returns-clause-utf8_four_bytes c = RestsOnFourBytes-whole

pub returns-clause-wtf8_front : goal.returns-clause-wtf8_front
returns-clause-wtf8_front c = FrontTestIsWhole-wtf8

pub returns-clause-wtf8_end : goal.returns-clause-wtf8_end
returns-clause-wtf8_end c = EndTestIsWhole-wtf8

pub returns-clause-wtf8_slice : goal.returns-clause-wtf8_slice
returns-clause-wtf8_slice c = SliceTestIsWhole-wtf8

pub returns-clause-wtf8_four_bytes : goal.returns-clause-wtf8_four_bytes
returns-clause-wtf8_four_bytes c = RestsOnFourBytes-whole_or_surrogate
