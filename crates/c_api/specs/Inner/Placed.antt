-- The numbers of what `text::find` found in the bytes behind the file's header: the first of these is byte 8 of the file.
use Rattle.std.specs.Prelude.{◌+◌}
use Rattle.text.specs.declared.Found.{Found}
use Rattle.text.specs.declared.Found.TheVariants.{Nothing, Cut, System, Pool}
use Rattle.c_api.specs.declared.content.AxmlContentAnswer.{AxmlContentAnswer}

abbrev pub place_of : Found → AxmlContentAnswer
place_of Nothing = record { slice = 0; start = 0; length = 0 }
place_of Cut = record { slice = 0; start = 0; length = 0 }
place_of (System at n) = record { slice = 1; start = at; length = n }
place_of (Pool at n) = record { slice = 2; start = 8 + at; length = n }
