mod Layouts
mod Reports
