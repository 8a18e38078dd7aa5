-- The laws of playing lane by lane.
mod TableLaws
mod BroughtLaws
mod FrameLaws
mod LawfulLaws
mod KeptLaws
mod CallLaws
mod WriteLaws
mod LaneLaws
mod HistoryLaws
mod RowLaws
mod Results
