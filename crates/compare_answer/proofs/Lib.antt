mod Worked
mod VerdictLaws
mod ReportLaws
mod Ends
