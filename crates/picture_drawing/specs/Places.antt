-- Where things stand in a picture, in pixels.
use Rattle.std.specs.Prelude.{ℕ, ◌+◌, ◌*◌, ◌-◌, ◌/◌}

-- the left edge of the lane of that place; a picture of so many lanes is as wide
abbrev pub lane_left : ℕ → ℕ
lane_left place = 342 + 310 * place

-- how many items of the legend stand beside each other, with so many lanes
abbrev pub column_count : ℕ → ℕ
column_count lanes = (lane_left lanes - 46) / 230

-- the upper edge of a row, below the legend's rows: the lanes' names stand above each fortieth
abbrev pub row_top : ℕ → ℕ → ℕ
row_top legend row = 60 + 18 * legend + 14 * row + 20 * (row / 40)
