-- What a local index keeps.
use Rattle.gj_base.specs.declared.history.History.{History}
use Rattle.gj_base.specs.declared.history.Shown.{Shown}
use Rattle.gj_base.specs.History.{StandsFor}
use Rattle.gj_keep.specs.Books.{BookKeeps, BookView}

-- its view stands for the history, and its book keeps it
abbrev pub LocalKeeps : Shown → BookView → History → Type 0
LocalKeeps shown book h = StandsFor shown h × BookKeeps book h
