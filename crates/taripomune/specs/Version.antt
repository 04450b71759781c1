-- The version of the C interface: TARI_VERSION of the header, raised with every change of the header or of an answer.
use Rattle.std.specs.Prelude.{ℕ}

abbrev pub version : ℕ
version = 4
