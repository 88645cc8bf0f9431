-- Each entry of a packed table is that of the table that the specification names. Written by make_tables.py.
use Rattle.std.proofs.Common.{◌≡◌, true, refl}
use Rattle.std.specs.Char.{encode_utf8}
use Rattle.tendril_decode.specs.Packed.{ArePacked}
use Rattle.tendril_decode.proofs.PackedSteps.{all_packed, entries_ok}
use Rattle.tendril_decode.specs.declared.tables.ibm866.TheConstants.{IBM866, PACKED_IBM866}
use Rattle.tendril_decode.specs.declared.tables.iso_8859_10.TheConstants.{ISO_8859_10, PACKED_ISO_8859_10}
use Rattle.tendril_decode.specs.declared.tables.iso_8859_13.TheConstants.{ISO_8859_13, PACKED_ISO_8859_13}
use Rattle.tendril_decode.specs.declared.tables.iso_8859_14.TheConstants.{ISO_8859_14, PACKED_ISO_8859_14}
use Rattle.tendril_decode.specs.declared.tables.iso_8859_15.TheConstants.{ISO_8859_15, PACKED_ISO_8859_15}
use Rattle.tendril_decode.specs.declared.tables.iso_8859_16.TheConstants.{ISO_8859_16, PACKED_ISO_8859_16}
use Rattle.tendril_decode.specs.declared.tables.iso_8859_2.TheConstants.{ISO_8859_2, PACKED_ISO_8859_2}
use Rattle.tendril_decode.specs.declared.tables.iso_8859_3.TheConstants.{ISO_8859_3, PACKED_ISO_8859_3}
use Rattle.tendril_decode.specs.declared.tables.iso_8859_4.TheConstants.{ISO_8859_4, PACKED_ISO_8859_4}
use Rattle.tendril_decode.specs.declared.tables.iso_8859_5.TheConstants.{ISO_8859_5, PACKED_ISO_8859_5}
use Rattle.tendril_decode.specs.declared.tables.iso_8859_6.TheConstants.{ISO_8859_6, PACKED_ISO_8859_6}
use Rattle.tendril_decode.specs.declared.tables.iso_8859_7.TheConstants.{ISO_8859_7, PACKED_ISO_8859_7}
use Rattle.tendril_decode.specs.declared.tables.iso_8859_8.TheConstants.{ISO_8859_8, PACKED_ISO_8859_8}
use Rattle.tendril_decode.specs.declared.tables.koi8_r.TheConstants.{KOI8_R, PACKED_KOI8_R}
use Rattle.tendril_decode.specs.declared.tables.koi8_u.TheConstants.{KOI8_U, PACKED_KOI8_U}
use Rattle.tendril_decode.specs.declared.tables.macintosh.TheConstants.{MACINTOSH, PACKED_MACINTOSH}
use Rattle.tendril_decode.specs.declared.tables.windows_1250.TheConstants.{WINDOWS_1250, PACKED_WINDOWS_1250}
use Rattle.tendril_decode.specs.declared.tables.windows_1251.TheConstants.{WINDOWS_1251, PACKED_WINDOWS_1251}
use Rattle.tendril_decode.specs.declared.tables.windows_1252.TheConstants.{WINDOWS_1252, PACKED_WINDOWS_1252}
use Rattle.tendril_decode.specs.declared.tables.windows_1253.TheConstants.{WINDOWS_1253, PACKED_WINDOWS_1253}
use Rattle.tendril_decode.specs.declared.tables.windows_1254.TheConstants.{WINDOWS_1254, PACKED_WINDOWS_1254}
use Rattle.tendril_decode.specs.declared.tables.windows_1255.TheConstants.{WINDOWS_1255, PACKED_WINDOWS_1255}
use Rattle.tendril_decode.specs.declared.tables.windows_1256.TheConstants.{WINDOWS_1256, PACKED_WINDOWS_1256}
use Rattle.tendril_decode.specs.declared.tables.windows_1257.TheConstants.{WINDOWS_1257, PACKED_WINDOWS_1257}
use Rattle.tendril_decode.specs.declared.tables.windows_1258.TheConstants.{WINDOWS_1258, PACKED_WINDOWS_1258}
use Rattle.tendril_decode.specs.declared.tables.windows_874.TheConstants.{WINDOWS_874, PACKED_WINDOWS_874}
use Rattle.tendril_decode.specs.declared.tables.x_mac_cyrillic.TheConstants.{X_MAC_CYRILLIC, PACKED_X_MAC_CYRILLIC}
use Rattle.tendril_decode.specs.declared.tables.x_user_defined.TheConstants.{X_USER_DEFINED, PACKED_X_USER_DEFINED}

ok-ibm866 : entries_ok IBM866 0 PACKED_IBM866 ≡ true
unfolding entries_ok encode_utf8
ok-ibm866 = refl

pub packed-ibm866 : ArePacked IBM866 PACKED_IBM866
packed-ibm866 = all_packed IBM866 PACKED_IBM866 ok-ibm866 refl

ok-iso_8859_10 : entries_ok ISO_8859_10 0 PACKED_ISO_8859_10 ≡ true
unfolding entries_ok encode_utf8
ok-iso_8859_10 = refl

pub packed-iso_8859_10 : ArePacked ISO_8859_10 PACKED_ISO_8859_10
packed-iso_8859_10 = all_packed ISO_8859_10 PACKED_ISO_8859_10 ok-iso_8859_10 refl

ok-iso_8859_13 : entries_ok ISO_8859_13 0 PACKED_ISO_8859_13 ≡ true
unfolding entries_ok encode_utf8
ok-iso_8859_13 = refl

pub packed-iso_8859_13 : ArePacked ISO_8859_13 PACKED_ISO_8859_13
packed-iso_8859_13 = all_packed ISO_8859_13 PACKED_ISO_8859_13 ok-iso_8859_13 refl

ok-iso_8859_14 : entries_ok ISO_8859_14 0 PACKED_ISO_8859_14 ≡ true
unfolding entries_ok encode_utf8
ok-iso_8859_14 = refl

pub packed-iso_8859_14 : ArePacked ISO_8859_14 PACKED_ISO_8859_14
packed-iso_8859_14 = all_packed ISO_8859_14 PACKED_ISO_8859_14 ok-iso_8859_14 refl

ok-iso_8859_15 : entries_ok ISO_8859_15 0 PACKED_ISO_8859_15 ≡ true
unfolding entries_ok encode_utf8
ok-iso_8859_15 = refl

pub packed-iso_8859_15 : ArePacked ISO_8859_15 PACKED_ISO_8859_15
packed-iso_8859_15 = all_packed ISO_8859_15 PACKED_ISO_8859_15 ok-iso_8859_15 refl

ok-iso_8859_16 : entries_ok ISO_8859_16 0 PACKED_ISO_8859_16 ≡ true
unfolding entries_ok encode_utf8
ok-iso_8859_16 = refl

pub packed-iso_8859_16 : ArePacked ISO_8859_16 PACKED_ISO_8859_16
packed-iso_8859_16 = all_packed ISO_8859_16 PACKED_ISO_8859_16 ok-iso_8859_16 refl

ok-iso_8859_2 : entries_ok ISO_8859_2 0 PACKED_ISO_8859_2 ≡ true
unfolding entries_ok encode_utf8
ok-iso_8859_2 = refl

pub packed-iso_8859_2 : ArePacked ISO_8859_2 PACKED_ISO_8859_2
packed-iso_8859_2 = all_packed ISO_8859_2 PACKED_ISO_8859_2 ok-iso_8859_2 refl

ok-iso_8859_3 : entries_ok ISO_8859_3 0 PACKED_ISO_8859_3 ≡ true
unfolding entries_ok encode_utf8
ok-iso_8859_3 = refl

pub packed-iso_8859_3 : ArePacked ISO_8859_3 PACKED_ISO_8859_3
packed-iso_8859_3 = all_packed ISO_8859_3 PACKED_ISO_8859_3 ok-iso_8859_3 refl

ok-iso_8859_4 : entries_ok ISO_8859_4 0 PACKED_ISO_8859_4 ≡ true
unfolding entries_ok encode_utf8
ok-iso_8859_4 = refl

pub packed-iso_8859_4 : ArePacked ISO_8859_4 PACKED_ISO_8859_4
packed-iso_8859_4 = all_packed ISO_8859_4 PACKED_ISO_8859_4 ok-iso_8859_4 refl

ok-iso_8859_5 : entries_ok ISO_8859_5 0 PACKED_ISO_8859_5 ≡ true
unfolding entries_ok encode_utf8
ok-iso_8859_5 = refl

pub packed-iso_8859_5 : ArePacked ISO_8859_5 PACKED_ISO_8859_5
packed-iso_8859_5 = all_packed ISO_8859_5 PACKED_ISO_8859_5 ok-iso_8859_5 refl

ok-iso_8859_6 : entries_ok ISO_8859_6 0 PACKED_ISO_8859_6 ≡ true
unfolding entries_ok encode_utf8
ok-iso_8859_6 = refl

pub packed-iso_8859_6 : ArePacked ISO_8859_6 PACKED_ISO_8859_6
packed-iso_8859_6 = all_packed ISO_8859_6 PACKED_ISO_8859_6 ok-iso_8859_6 refl

ok-iso_8859_7 : entries_ok ISO_8859_7 0 PACKED_ISO_8859_7 ≡ true
unfolding entries_ok encode_utf8
ok-iso_8859_7 = refl

pub packed-iso_8859_7 : ArePacked ISO_8859_7 PACKED_ISO_8859_7
packed-iso_8859_7 = all_packed ISO_8859_7 PACKED_ISO_8859_7 ok-iso_8859_7 refl

ok-iso_8859_8 : entries_ok ISO_8859_8 0 PACKED_ISO_8859_8 ≡ true
unfolding entries_ok encode_utf8
ok-iso_8859_8 = refl

pub packed-iso_8859_8 : ArePacked ISO_8859_8 PACKED_ISO_8859_8
packed-iso_8859_8 = all_packed ISO_8859_8 PACKED_ISO_8859_8 ok-iso_8859_8 refl

ok-koi8_r : entries_ok KOI8_R 0 PACKED_KOI8_R ≡ true
unfolding entries_ok encode_utf8
ok-koi8_r = refl

pub packed-koi8_r : ArePacked KOI8_R PACKED_KOI8_R
packed-koi8_r = all_packed KOI8_R PACKED_KOI8_R ok-koi8_r refl

ok-koi8_u : entries_ok KOI8_U 0 PACKED_KOI8_U ≡ true
unfolding entries_ok encode_utf8
ok-koi8_u = refl

pub packed-koi8_u : ArePacked KOI8_U PACKED_KOI8_U
packed-koi8_u = all_packed KOI8_U PACKED_KOI8_U ok-koi8_u refl

ok-macintosh : entries_ok MACINTOSH 0 PACKED_MACINTOSH ≡ true
unfolding entries_ok encode_utf8
ok-macintosh = refl

pub packed-macintosh : ArePacked MACINTOSH PACKED_MACINTOSH
packed-macintosh = all_packed MACINTOSH PACKED_MACINTOSH ok-macintosh refl

ok-windows_1250 : entries_ok WINDOWS_1250 0 PACKED_WINDOWS_1250 ≡ true
unfolding entries_ok encode_utf8
ok-windows_1250 = refl

pub packed-windows_1250 : ArePacked WINDOWS_1250 PACKED_WINDOWS_1250
packed-windows_1250 = all_packed WINDOWS_1250 PACKED_WINDOWS_1250 ok-windows_1250 refl

ok-windows_1251 : entries_ok WINDOWS_1251 0 PACKED_WINDOWS_1251 ≡ true
unfolding entries_ok encode_utf8
ok-windows_1251 = refl

pub packed-windows_1251 : ArePacked WINDOWS_1251 PACKED_WINDOWS_1251
packed-windows_1251 = all_packed WINDOWS_1251 PACKED_WINDOWS_1251 ok-windows_1251 refl

ok-windows_1252 : entries_ok WINDOWS_1252 0 PACKED_WINDOWS_1252 ≡ true
unfolding entries_ok encode_utf8
ok-windows_1252 = refl

pub packed-windows_1252 : ArePacked WINDOWS_1252 PACKED_WINDOWS_1252
packed-windows_1252 = all_packed WINDOWS_1252 PACKED_WINDOWS_1252 ok-windows_1252 refl

ok-windows_1253 : entries_ok WINDOWS_1253 0 PACKED_WINDOWS_1253 ≡ true
unfolding entries_ok encode_utf8
ok-windows_1253 = refl

pub packed-windows_1253 : ArePacked WINDOWS_1253 PACKED_WINDOWS_1253
packed-windows_1253 = all_packed WINDOWS_1253 PACKED_WINDOWS_1253 ok-windows_1253 refl

ok-windows_1254 : entries_ok WINDOWS_1254 0 PACKED_WINDOWS_1254 ≡ true
unfolding entries_ok encode_utf8
ok-windows_1254 = refl

pub packed-windows_1254 : ArePacked WINDOWS_1254 PACKED_WINDOWS_1254
packed-windows_1254 = all_packed WINDOWS_1254 PACKED_WINDOWS_1254 ok-windows_1254 refl

ok-windows_1255 : entries_ok WINDOWS_1255 0 PACKED_WINDOWS_1255 ≡ true
unfolding entries_ok encode_utf8
ok-windows_1255 = refl

pub packed-windows_1255 : ArePacked WINDOWS_1255 PACKED_WINDOWS_1255
packed-windows_1255 = all_packed WINDOWS_1255 PACKED_WINDOWS_1255 ok-windows_1255 refl

ok-windows_1256 : entries_ok WINDOWS_1256 0 PACKED_WINDOWS_1256 ≡ true
unfolding entries_ok encode_utf8
ok-windows_1256 = refl

pub packed-windows_1256 : ArePacked WINDOWS_1256 PACKED_WINDOWS_1256
packed-windows_1256 = all_packed WINDOWS_1256 PACKED_WINDOWS_1256 ok-windows_1256 refl

ok-windows_1257 : entries_ok WINDOWS_1257 0 PACKED_WINDOWS_1257 ≡ true
unfolding entries_ok encode_utf8
ok-windows_1257 = refl

pub packed-windows_1257 : ArePacked WINDOWS_1257 PACKED_WINDOWS_1257
packed-windows_1257 = all_packed WINDOWS_1257 PACKED_WINDOWS_1257 ok-windows_1257 refl

ok-windows_1258 : entries_ok WINDOWS_1258 0 PACKED_WINDOWS_1258 ≡ true
unfolding entries_ok encode_utf8
ok-windows_1258 = refl

pub packed-windows_1258 : ArePacked WINDOWS_1258 PACKED_WINDOWS_1258
packed-windows_1258 = all_packed WINDOWS_1258 PACKED_WINDOWS_1258 ok-windows_1258 refl

ok-windows_874 : entries_ok WINDOWS_874 0 PACKED_WINDOWS_874 ≡ true
unfolding entries_ok encode_utf8
ok-windows_874 = refl

pub packed-windows_874 : ArePacked WINDOWS_874 PACKED_WINDOWS_874
packed-windows_874 = all_packed WINDOWS_874 PACKED_WINDOWS_874 ok-windows_874 refl

ok-x_mac_cyrillic : entries_ok X_MAC_CYRILLIC 0 PACKED_X_MAC_CYRILLIC ≡ true
unfolding entries_ok encode_utf8
ok-x_mac_cyrillic = refl

pub packed-x_mac_cyrillic : ArePacked X_MAC_CYRILLIC PACKED_X_MAC_CYRILLIC
packed-x_mac_cyrillic = all_packed X_MAC_CYRILLIC PACKED_X_MAC_CYRILLIC ok-x_mac_cyrillic refl

ok-x_user_defined : entries_ok X_USER_DEFINED 0 PACKED_X_USER_DEFINED ≡ true
unfolding entries_ok encode_utf8
ok-x_user_defined = refl

pub packed-x_user_defined : ArePacked X_USER_DEFINED PACKED_X_USER_DEFINED
packed-x_user_defined = all_packed X_USER_DEFINED PACKED_X_USER_DEFINED ok-x_user_defined refl

pub ruleset packed_tables = (
  packed-ibm866,
  packed-iso_8859_10,
  packed-iso_8859_13,
  packed-iso_8859_14,
  packed-iso_8859_15,
  packed-iso_8859_16,
  packed-iso_8859_2,
  packed-iso_8859_3,
  packed-iso_8859_4,
  packed-iso_8859_5,
  packed-iso_8859_6,
  packed-iso_8859_7,
  packed-iso_8859_8,
  packed-koi8_r,
  packed-koi8_u,
  packed-macintosh,
  packed-windows_1250,
  packed-windows_1251,
  packed-windows_1252,
  packed-windows_1253,
  packed-windows_1254,
  packed-windows_1255,
  packed-windows_1256,
  packed-windows_1257,
  packed-windows_1258,
  packed-windows_874,
  packed-x_mac_cyrillic,
  packed-x_user_defined,
)
