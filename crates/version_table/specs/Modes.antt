-- What streams are opened for, and what kernels were given.
use Rattle.std.specs.Prelude.{Bool, true, false, List, replicate}
use Rattle.sprite_ids.specs.declared.Mode.{Mode}
use Rattle.sprite_ids.specs.declared.Mode.TheVariants.{Read, Write, Both}
use Rattle.sprite_ids.specs.declared.CacheMode.{CacheMode}
use Rattle.sprite_ids.specs.declared.CacheMode.TheVariants.{On, Off, None}

-- whether a stream of that mode may write
abbrev pub writes : Mode → Bool
writes Read = false
writes Write = true
writes Both = true

-- whether a kernel that was given that mode may cache
abbrev pub caches : CacheMode → Bool
caches On = true
caches Off = false
caches None = false

-- the mode of a grant
abbrev pub mode_of_grant : Bool → CacheMode
mode_of_grant true = On
mode_of_grant false = Off

-- no kernel was given a mode
abbrev pub no_modes : List CacheMode
no_modes = replicate 16 None
