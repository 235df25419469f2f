-- The usage text.
use Rattle.std.specs.Prelude.{ℕ, List, ◌++◌, codes}

-- a line for each command of the finished program
abbrev pub usage : List ℕ
usage =
    codes "usage: mastro facts MAPPINGS\n"
    ++ codes "       mastro check [--workers N] ONTOLOGY CONSTRAINTS MAPPINGS\n"
    ++ codes "       mastro answer [--workers N] ONTOLOGY CONSTRAINTS MAPPINGS QUERY [QUERY]\n"
    ++ codes "       mastro make N\n"
    ++ codes "       mastro tolerant [--workers N] ONTOLOGY CONSTRAINTS MAPPINGS QUERY [QUERY]\n"
    ++ codes "       mastro explain [--workers N] [--all] ONTOLOGY CONSTRAINTS MAPPINGS QUERY\n"
    ++ codes "       mastro audit [--workers N] ONTOLOGY CONSTRAINTS MAPPINGS RULES\n"
    ++ codes "       mastro desk ONTOLOGY CONSTRAINTS MAPPINGS SCRIPT [SCRIPT]\n"
