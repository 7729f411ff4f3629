-- Lists of rules (document 01, "A state is sound if").
use Rattle.std.specs.Prelude.{Bool, true, ◌&&◌, List, [], ◌∷◌}

-- every rule of a list holds
abbrev pub all_of : List Bool → Bool
all_of [] = true
all_of (rule ∷ rules) = rule && all_of rules
