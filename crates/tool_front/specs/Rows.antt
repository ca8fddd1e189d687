-- Words that are worked through by hand.
use Rattle.std.specs.Prelude.{◌≡◌, List, [], ◌∷◌, codes, None, Some}
use Rattle.tool_front.specs.declared.command.Command.TheVariants as command
use Rattle.tool_front.specs.Front.{Listing, Version, Help, Nothing, Unknown, Run, front_of}
use Rattle.tool_front.specs.Help.{help_text, version_text}
use Rattle.tool_front.specs.Note.{note_text}

pub record AreRead : Type 0 where
  pub nothing : front_of [] ≡ Nothing
  pub long_help : front_of (codes "--help" ∷ []) ≡ Listing
  pub short_help : front_of (codes "-h" ∷ codes "why" ∷ []) ≡ Help command.Why
  pub help : front_of (codes "help" ∷ []) ≡ Listing
  pub help_of_help : front_of (codes "help" ∷ codes "help" ∷ []) ≡ Listing
  pub help_of_command : front_of (codes "help" ∷ codes "curve" ∷ []) ≡ Help command.Curve
  pub help_of_none : front_of (codes "help" ∷ codes "cure" ∷ []) ≡ Unknown (codes "cure")
  pub version : front_of (codes "--version" ∷ []) ≡ Version
  pub short_version : front_of (codes "-V" ∷ []) ≡ Version
  pub unknown : front_of (codes "whys" ∷ codes "m" ∷ []) ≡ Unknown (codes "whys")
  pub option : front_of (codes "--csv" ∷ []) ≡ Unknown (codes "--csv")
  pub wins : front_of (codes "risk" ∷ codes "m" ∷ codes "-h" ∷ codes "book" ∷ []) ≡ Help command.Risk
  pub a_file_named_help : front_of (codes "run" ∷ codes "m" ∷ codes "help" ∷ []) ≡ Run command.Run (codes "m" ∷ codes "help" ∷ [])
  pub bare : front_of (codes "load" ∷ []) ≡ Run command.Load []

pub record AreNoted : Type 0 where
  pub done : note_text command.Why (codes "m" ∷ []) 0 None ≡ []
  pub usage : note_text command.Why (codes "m" ∷ []) 2 (Some (codes "usage"))
      ≡ codes "doqs why: usage\nusage: doqs why MARKET SCRIPT NAME\n"
  pub market : note_text command.Why (codes "m" ∷ codes "s" ∷ codes "book" ∷ []) 3 (Some (codes "market objects 1 key"))
      ≡ codes "doqs why: market objects 1 key\ndesk_fault m s says in which line, and what would be taken\n"
  pub script : note_text command.Run (codes "--order" ∷ codes "last" ∷ codes "m" ∷ codes "s" ∷ []) 4 (Some (codes "script 3 word"))
      ≡ codes "doqs run: script 3 word\ndesk_fault m s says in which line, and what would be taken\n"
  pub joined : note_text command.Run (codes "m" ∷ codes "--order=7" ∷ codes "s" ∷ []) 4 (Some (codes "script 3 word"))
      ≡ codes "doqs run: script 3 word\ndesk_fault m s says in which line, and what would be taken\n"
  pub no_script : note_text command.Live (codes "m" ∷ codes "--ready" ∷ []) 3 (Some (codes "market top 0 toml"))
      ≡ codes "doqs live: market top 0 toml\ndesk_fault m says in which line, and what would be taken\n"
  pub one_path : note_text command.Curve (codes "--csv" ∷ codes "m" ∷ codes "euro" ∷ []) 3 (Some (codes "market top 0 toml"))
      ≡ codes "doqs curve: market top 0 toml\ndesk_fault m says in which line, and what would be taken\n"
  pub absent : note_text command.Bump (codes "m" ∷ codes "b" ∷ []) 8 (Some (codes "no file market"))
      ≡ codes "doqs bump: no file market\n"
  pub wrong_name : note_text command.Why (codes "m" ∷ codes "s" ∷ codes "bok" ∷ []) 10 (Some (codes "refused"))
      ≡ codes "doqs why: refused\n"

pub record AreHelped : Type 0 where
  pub measure : help_text command.Measure ≡ codes "usage: doqs measure MARKET NAME DAY PRICE\n\nWrites what yield writes, and then the gain of a basis point, duration, convexity and\nthe spread over the curve of the bond's engine.\n\nexample: doqs measure market.toml state 2024-01-17 990000\n"
  pub versions : version_text ≡ codes "doqs 0.18\nlogic dac8208d650f15bf\n"
