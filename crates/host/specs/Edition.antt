-- Which edition of the interface an archive has, so that a host can tell whether its header is of the same.
-- No rule of the requirement: the header's PRESSCURLEW_VERSION_NUMBER and PRESSCURLEW_LAYOUT, held by tests.
use Rattle.std.specs.Prelude.{ℕ}

-- 0.11.0: a million for each major and a thousand for each minor number
abbrev pub version : ℕ
version = 11000

-- the check sum of the sizes and offsets of all structs, and of the types of all calls, as C sees them
abbrev pub layout : ℕ
layout = 2252050035
