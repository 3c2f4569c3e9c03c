-- How many bytes a number takes at most, with the byte before it, and how far below 2 ^ 64 the place has to be at which it is written: a
-- function that writes digits takes room for 20 of them, however few there are.
--
-- Main definitions
--   number_bytes, count_bytes   a space and a number within ±C; a space and a count
--   number_room        a space and a number within ±C, with that room
use Rattle.std.specs.Prelude.{ℕ}

-- a space, a minus and nine digits
abbrev pub number_bytes : ℕ
number_bytes = 11

-- a space, or the newline past it, and twenty digits
abbrev pub count_bytes : ℕ
count_bytes = 21

-- a space, a minus and twenty digits
abbrev pub number_room : ℕ
number_room = 22
