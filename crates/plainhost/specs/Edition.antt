-- Which edition of the interface an archive has, so that a host can tell whether its header is of the same.
-- No rule of the requirement: it is the header's PRESSCURLEW_PLAIN_LAYOUT, held by a test.
use Rattle.std.specs.Prelude.{ℕ}

-- the check sum of the sizes and offsets of all structs, and of the types of all calls, as C sees them
abbrev pub layout : ℕ
layout = 3524407202
